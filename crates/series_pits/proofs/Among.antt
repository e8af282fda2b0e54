-- The net of some blocks alone, what a pit of them is worth, and what parts give.
use Rattle.std.specs.Prelude.{Result, Ok, Err, MatchResult}
use Rattle.fixed_worth.proofs.Common.{◌≡◌, ℕ, zero, suc, ◌+ℤ◌, ℤ, pos, ◌<◌, Bool, true, false, All, List, [], ◌∷◌, ◌++◌}
use Rattle.fixed_worth.proofs.Common.{nat_lt, cond, length, map, get_or, refl, sym, subst, ap, ◌∙◌, arith, length-map}
use Rattle.fixed_worth.proofs.Common.{get_or-map, ltb-true, All-append}
use Rattle.ordered_group.specs.Prelude.{Amount, zero_amount, worth_in}
use Rattle.closure_net.specs.Prelude.{NetView, net_view, holds_of, IsAscending, IsBest, IsNetOf, WorthsFaultStands}
use Rattle.closure_net.specs.declared.net.NetFault.{NetFault}
use Rattle.shells.specs.Prelude.{PricesView, priced_count, worth_at, mine_at}
use Rattle.check_engines.proofs.Counted.{count_in-ascending}
use Rattle.sub_mines.specs.Prelude.{every_block, number_in, IsPartPairs}
use Rattle.sub_mines.proofs.Kept.{listed}
use Rattle.sub_mines.proofs.Renumbering.{worth_listed}
use Rattle.series_pits.specs.declared.mine_parts.Part.{Part}
use Rattle.series_pits.specs.Prelude.{IsRowOf, IsNetAmong, mine_among}
use Rattle.series_pits.proofs.Parting.{own_list}
use Rattle.series_pits.proofs.Proving.{all_one}
use Rattle.prec_file.proofs.Pairs.{rests_of_pair, pair_of_rests}

-- the net of these pairs and worths is that of the blocks alone
pub net_of : (block : ℤ → ℕ → Amount) (less : List (ℕ × ℕ)) (prices : PricesView) (kept : List ℕ) (k n : ℕ)
    (nanos : List ℤ) (net : NetView) → n ≡ length kept → nanos ≡ map (worth_at prices k) kept
    → net ≡ net_view less (map (λ v. block v n) nanos) → IsNetOf block (mine_among less prices kept k) net
net_of block less prices kept k n nanos net counted are is =
    let worths = map (worth_at prices k) kept in
    let m = length kept in
    let made : net ≡ net_view less (map (λ v. block v m) worths) = is
    ∙ ap (λ (x : ℕ). net_view less (map (λ v. block v x) nanos)) counted
    ∙ ap (λ (vs : List ℤ). net_view less (map (λ v. block v m) vs)) are in
    let size : length worths ≡ m = length-map kept (worth_at prices k) in
    record {
      blocks = ap (λ (x : NetView). length x.worths) made ∙ length-map worths (λ v. block v m) ∙ size;
      worths = λ b l.
          let inside : b < length worths = omega (arith, l, size) in
          ap (λ (x : NetView). get_or x.worths b zero_amount) made
          ∙ get_or-map (λ v. block v m) worths b (pos 0) zero_amount inside
          ∙ ap (λ v. block v m) (get_or-map (worth_at prices k) kept b 0 (pos 0) l);
      pairs = λ b p. rw (ap (λ (x : NetView). x.pairs) made) (rests_of_pair less b p, pair_of_rests less b p);
    }

-- what making the net of some blocks gives: it, or why an amount doesn't fit
pub net_made : (block : ℤ → ℕ → Amount) (pairs less : List (ℕ × ℕ)) (prices : PricesView) (kept : List ℕ) (k n : ℕ)
    (nanos : List ℤ) (made : Result NetView NetFault) → n ≡ length kept → IsPartPairs kept pairs less
    → nanos ≡ map (worth_at prices k) kept
    → MatchResult made (λ net. (net ≡ net_view less (map (λ v. block v n) nanos)) × (n ≡ length nanos))
    (WorthsFaultStands block n nanos)
    → MatchResult made (IsNetAmong block pairs prices kept k)
    (WorthsFaultStands block (length kept) (map (worth_at prices k) kept))
net_made block pairs less prices kept k n nanos (Ok net) counted part are h =
    record { less = less; part = part; of = net_of block less prices kept k n nanos net counted are h.0 }
net_made block pairs less prices kept k n nanos (Err e) counted part are h =
    subst (λ (m : ℕ). WorthsFaultStands block m (map (worth_at prices k) kept) e) counted
    (subst (λ (vs : List ℤ). WorthsFaultStands block n vs e) are h)

-- the worth of a set, with each other block worth nothing
worth_folded : (v : ℕ → ℤ) (e : ℕ → Bool) (n : ℕ)
    → worth_in v e n ≡ worth_in (λ b. cond (e b) (v b) (pos 0)) every_block n
worth_folded v e zero = refl
worth_folded v e (suc n) = ap (λ x. x +ℤ cond (e n) (v n) (pos 0)) (worth_folded v e n)

-- a pit of ascending blocks, each with a price, has as many as it lists and is worth what they are worth together
pub proved_row : (pairs : List (ℕ × ℕ)) (prices : PricesView) (k : ℕ) (blocks : List ℕ) (count : ℕ) (worth : ℤ)
    → IsAscending blocks → All (λ b. b < priced_count prices) blocks → count ≡ length blocks
    → worth ≡ worth_in (λ i. worth_at prices k (number_in blocks i)) every_block (length blocks)
    → IsBest (mine_at pairs prices k) (holds_of blocks)
    → IsRowOf (mine_at pairs prices k) (record { factor = k; blocks = count; worth = worth })
proved_row pairs prices k blocks count worth rising low counts is best = record {
  pit = holds_of blocks;
  best = best;
  blocks_are = count_in-ascending blocks (priced_count prices) rising low ∙ sym counts;
  worth_is =
      worth_folded (worth_at prices k) (holds_of blocks) (priced_count prices)
      ∙ worth_listed (holds_of blocks) every_block (worth_at prices k) (number_in blocks) (priced_count prices)
      (length blocks) (listed (holds_of blocks) (priced_count prices) blocks
      (own_list (priced_count prices) blocks rising low)) ∙ sym is;
}

-- a part is taken up where it has some factor
kept_by : (Q : Part → Type 0) (part : Part) (xs : List Part) (t : Bool) → All Q xs → (t ≡ true → Q part)
    → All Q (xs ++ cond t (part ∷ []) [])
kept_by Q part xs true h k = All-append Q xs (part ∷ []) h (all_one Q part (k refl))
kept_by Q part xs false h k = All-append Q xs [] h (λ j d l. absurd (omega (arith, l)))

pub all_kept : (Q : Part → Type 0) (part : Part) (xs ys : List Part)
    → ys ≡ xs ++ cond (nat_lt part.from part.to) (part ∷ []) [] → All Q xs → (part.from < part.to → Q part) → All Q ys
all_kept Q part xs ys e h k = subst (All Q) (sym e)
    (kept_by Q part xs (nat_lt part.from part.to) h (λ t. k (ltb-true part.from part.to t)))
