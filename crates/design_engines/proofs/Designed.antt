-- What the marks of a design come to is what the design of the text comes to.
use Rattle.fixed_worth.proofs.Common.{◌≡◌, ℕ, ◌<◌, ◌≤◌, ℤ, Bool, List, [], ◌∷◌, length, take, refl, ap, ◌∙◌, subst}
use Rattle.fixed_worth.proofs.Common.{arith, All, FitsSigned, w128, All-head, All-tail}
use Rattle.prec_file.specs.Rests.{RestsView, IsRests, IsKnown}
use Rattle.ordered_group.specs.Sets.{worth_in, count_in}
use Rattle.ordered_group.proofs.BlockSets.{count_in-same, worth_in-agrees}
use Rattle.design_file.specs.Records.{design_of}
use Rattle.design_value.specs.Prelude.{leads_out, open_pairs, most_open_told, AreOpen, marked_in, worth_listed}
use Rattle.design_value.specs.Prelude.{SumLeaves}
use Rattle.mine_inputs.specs.Prelude.{MineTexts, worth_by_texts, AreRead}
use Rattle.design_engines.specs.Prelude.{ReadsDesign, IsValued, WorthLeaves}
use Rattle.design_engines.proofs.Closed.{closed_where}

-- ---- two sets of blocks that agree below n

leads_alike : (n : ℕ) (e c : ℕ → Bool) (pair : ℕ × ℕ) → ((b : ℕ) → b < n → e b ≡ c b) → IsKnown n pair
    → leads_out e pair ≡ leads_out c pair
leads_alike n e c pair f known = rw (f pair.0 known.0, f pair.1 known.1) refl

open_alike : (n : ℕ) (e c : ℕ → Bool) (pairs : List (ℕ × ℕ)) → ((b : ℕ) → b < n → e b ≡ c b) → All (IsKnown n) pairs
    → open_pairs e pairs ≡ open_pairs c pairs
open_alike n e c [] f known = refl
open_alike n e c (pair ∷ pairs) f known =
    rw (
      leads_alike n e c pair f (All-head (IsKnown n) pair pairs known),
      open_alike n e c pairs f
          (All-tail (IsKnown n) pair pairs known),
    ) refl

-- ---- a design over a mine that was read

module _ (texts : MineTexts) (design : List ℕ) (nanos : List ℤ) (rests : RestsView) (marks : List Bool)
    (a : AreRead texts nanos rests) (d : ReadsDesign rests.blocks design marks) where
  sums_alike : (k : ℕ) → k ≤ rests.blocks → worth_in (worth_listed nanos) (marked_in marks) k ≡ worth_in
      (worth_by_texts texts) (design_of design) k
  sums_alike k l = worth_in-agrees (worth_listed nanos) (worth_by_texts texts) (marked_in marks) (design_of design) k
      (λ b h. a.worths.each b (omega (arith, h, l))) (λ b h. d.1.at b (omega (arith, h, l)))

  pub valued : IsRests rests → (count : ℕ) (worth : ℤ) (leading : ℕ) (needs : List (ℕ × ℕ))
      → count ≡ count_in (marked_in marks) (length marks) → worth ≡ worth_in (worth_listed nanos) (marked_in marks)
      (length nanos) → AreOpen (marked_in marks) rests.pairs leading needs
      → IsValued texts design (record { count = count; worth = worth; leading = leading; needs = needs })
  valued known count worth leading needs c w o =
      let e = marked_in marks in
      let same : (b : ℕ) → b < rests.blocks → e b ≡ design_of design b = d.1.at in
      let pairs = open_alike rests.blocks e (design_of design) rests.pairs same known.known in
      let all : leading ≡ length (open_pairs (design_of design) rests.pairs) = o.all ∙ ap length pairs in
      let whole : rests.blocks ≤ rests.blocks = omega arith in
      record {
        blocks = rests.blocks;
        mine = a.mine;
        drawn = d.0;
        count = c ∙ ap (count_in e) d.1.size ∙ count_in-same e (design_of design) rests.blocks same;
        worth = w ∙ ap (worth_in (worth_listed nanos) e) a.worths.size ∙ sums_alike rests.blocks whole;
        pairs = rests.pairs;
        are = a.pairs;
        leads = record { all = all; first = o.first ∙ ap (take most_open_told) pairs };
        closed = closed_where texts rests.blocks rests.pairs (design_of design) leading a.pairs all;
      }

  pub leaves : SumLeaves (worth_listed nanos) (marked_in marks) (length nanos) → WorthLeaves texts design
  leaves s =
      let l : s.0 ≤ rests.blocks = omega (arith, s.1, a.worths.size) in
      record {
        blocks = rests.blocks;
        mine = a.mine;
        drawn = d.0;
        leaves = (s.0, l, subst (λ (z : ℤ). ¬ (FitsSigned w128 z)) (sums_alike s.0 l) s.2);
      }
