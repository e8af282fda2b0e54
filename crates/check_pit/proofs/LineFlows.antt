-- The flow and the pit that the lines of a faultless text say, and what sums over the lines tell of them.
use Rattle.fixed_worth.proofs.Common.{◌≡◌, ◌≢◌, ℕ, suc, get_or, ◌<◌, Bool, true, false, eqb, inl, inr, List, [], ◌∷◌}
use Rattle.fixed_worth.proofs.Common.{length, None, refl, sym, ap, ◌∙◌, subst, arith, ◌↔◌, All, ints, eq-eqb, ne_eqb}
use Rattle.fixed_worth.proofs.Common.{length-map-range_with_len, get_or-map-range_with_len, common_steps}
use Rattle.ordered_group.specs.Prelude.{Amount, zero_amount, plus, minus, AtMost, positive, negative, Amount_eq, total}
use Rattle.ordered_group.specs.Prelude.{where_so, amount_at}
use Rattle.ordered_group.proofs.Order.{AtMost-refl}
use Rattle.ordered_group.proofs.Signs.{NonNeg-positive, NonNeg-negative}
use Rattle.ordered_group.proofs.Totals.{total-same, total-minus, total-zero, total_changed}
use Rattle.prec_file.specs.Prelude.{IsRests, from_at, to_at, has_pair}
use Rattle.closure_net.specs.Prelude.{NetView, IsAscending, holds_of, group_worth, IsBalancedAt, source_residual}
use Rattle.closure_net.specs.Prelude.{inflow, outflow}
use Rattle.closure_net.proofs.Holding.{place_of}
use Rattle.certificate_file.specs.declared.body_lines.LineKind.{LineKind}
use Rattle.certificate_file.specs.declared.body_lines.LineKind.TheVariants.{Source, Rest, Sink}
use Rattle.certificate_file.specs.declared.body_lines.BodyLine.{BodyLine}
use Rattle.certificate_file.specs.Prelude.{lines_of_pieces, is_of_model, DenotesFlow, pit_of, amount_of, given_amount}
use Rattle.certificate_file.specs.Prelude.{gives_source, gives_rest, gives_sink}
use Rattle.check_pit.specs.Prelude.{NoneBelowZero, AllWithin, balance_of, residual_after, worth_of_blocks, flow_of}
use Rattle.check_pit.specs.Prelude.{keeps_by, KeepLimits, LineSumsTell}
use Rattle.certificate_file.proofs.Order.{InOrder, Good, in_order_weaker, stands_in_order, ascending, known}
use Rattle.certificate_file.proofs.LineOrder.{Has, has_good, Proper, good_is_proper, found}
use Rattle.certificate_file.proofs.SameLines.{tells_source, tells_sink, tells_rest, source_so, sink_so, rest_so}
use Rattle.check_pit.proofs.LineSums.{sum_giving, sum_giving_in_order, sources_of_lines, end_sum, ends_of_lines}
use Rattle.check_pit.proofs.LineSums.{balance_is}

-- what the pit is worth, block by block

held_else : (b j : ℕ) (bs : List ℕ) → j ≢ b → holds_of (b ∷ bs) j ≡ holds_of bs j
held_else b j bs d = let e = ne_eqb b j (λ i. d (sym i)) in rw e refl

held_first : (b : ℕ) (bs : List ℕ) → holds_of (b ∷ bs) b ≡ true
held_first b bs = let e = eq-eqb b b refl in rw e refl

not_after : (b : ℕ) (bs : List ℕ) (t : Bool) → IsAscending (b ∷ bs) → holds_of bs b ≡ t → t ≡ false
not_after b bs true a e = grind (
  arith,
  common_steps,
  (place_of bs b e),
  (a 0 (suc (place_of bs b e).0) (omega arith) (omega (arith, (place_of bs b e).1))),
)
not_after b bs false a e = refl

one_more : (p q x y z w : Amount) → plus p q ≡ plus x y → q ≡ zero_amount → y ≡ z → x ≡ w → p ≡ plus z w
one_more p q x y z w e f g h = grind (arith, common_steps)

pub worth_is : (ws : List Amount) (bs : List ℕ) → IsAscending bs → All (λ b. b < length ws) bs
    → group_worth ws (holds_of bs) ≡ worth_of_blocks ws bs
worth_is ws [] a k = total-zero (length ws)
worth_is ws (b ∷ bs) a k =
    let g : ℕ → Amount = λ j. where_so (holds_of bs j) (amount_at ws j) in
    let h : ℕ → Amount = λ j. where_so (holds_of (b ∷ bs) j) (amount_at ws j) in
    let ih = worth_is ws bs (λ i j l m. a (suc i) (suc j) (omega arith) (omega arith))
    (λ i d l. k (suc i) d (omega arith)) in
    let changed = total_changed g h b (length ws) (k 0 0 (omega arith))
    (λ j l d. ap (λ (t : Bool). where_so t (amount_at ws j)) (held_else b j bs d)) in
    one_more (total h (length ws)) (g b) (total g (length ws)) (h b) (amount_at ws b) (worth_of_blocks ws bs) changed
    (ap (λ (t : Bool). where_so t (amount_at ws b)) (not_after b bs (holds_of bs b) a refl))
    (ap (λ (t : Bool). where_so t (amount_at ws b)) (held_first b bs)) ih

-- the amounts of the flow, one by one

source_at : (n : ℕ) (pairs : List (ℕ × ℕ)) (ls : List BodyLine) (b : ℕ) → b < n
    → amount_at (flow_of n pairs ls).source b ≡ given_amount (gives_source b) zero_amount ls
source_at n pairs ls b h = get_or-map-range_with_len (λ i. given_amount (gives_source i) zero_amount ls) 0 n b b
    zero_amount h (omega arith)

rest_at : (n : ℕ) (pairs : List (ℕ × ℕ)) (ls : List BodyLine) (k : ℕ) → k < length pairs
    → amount_at (flow_of n pairs ls).rest k ≡ given_amount (gives_rest (get_or pairs k (0, 0))) zero_amount ls
rest_at n pairs ls k h = get_or-map-range_with_len
    (λ i. given_amount (gives_rest (get_or pairs i (0, 0))) zero_amount ls) 0 (length pairs) k k zero_amount h
    (omega arith)

sink_at : (n : ℕ) (pairs : List (ℕ × ℕ)) (ls : List BodyLine) (b : ℕ) → b < n
    → amount_at (flow_of n pairs ls).sink b ≡ given_amount (gives_sink b) zero_amount ls
sink_at n pairs ls b h = get_or-map-range_with_len (λ i. given_amount (gives_sink i) zero_amount ls) 0 n b b
    zero_amount h (omega arith)

pub denoted : (n : ℕ) (pairs : List (ℕ × ℕ)) (ls : List BodyLine)
    → DenotesFlow n pairs ls (pit_of ls) (flow_of n pairs ls)
denoted n pairs ls = record {
  pit = refl;
  covers = record {
    sources = length-map-range_with_len (λ b. given_amount (gives_source b) zero_amount ls) 0 n;
    rests = length-map-range_with_len (λ k. given_amount (gives_rest (get_or pairs k (0, 0))) zero_amount ls) 0
        (length pairs);
    sinks = length-map-range_with_len (λ b. given_amount (gives_sink b) zero_amount ls) 0 n;
  };
  source = λ b h. source_at n pairs ls b h;
  rest = λ k h. rest_at n pairs ls k h;
  sink = λ b h. sink_at n pairs ls b h;
}

-- balances

balance_tells : (p s i t o S I T O : Amount) → p ≡ minus (plus s i) (plus t o) → S ≡ s → I ≡ i → T ≡ t → O ≡ o
    → (plus S I ≡ plus T O) ↔ (p ≡ zero_amount)
balance_tells p s i t o S I T O e a b c d =
    let ew = ap (λ (x : Amount). x.w) e in
    let ec = ap (λ (x : Amount). x.c) e in
    rw (a, b, c, d) (
      λ h. let hw = ap (λ (x : Amount). x.w) h in let hc = ap (λ (x : Amount). x.c) h in Amount_eq _ _
          (omega (arith, ints, ew, hw)) (omega (arith, ints, ec, hc)),
      λ h. let hw = ap (λ (x : Amount). x.w) h in let hc = ap (λ (x : Amount). x.c) h in Amount_eq _ _
          (omega (arith, ints, ew, hw)) (omega (arith, ints, ec, hc)),
    )

module _ (net : NetView) (ls : List BodyLine)
    (rests : IsRests (record { blocks = length net.worths; pairs = net.pairs }))
    (order : InOrder (Proper (length net.worths) (has_pair net.pairs)) None ls) where
  carried : (k : ℕ) → k < length net.pairs → amount_at (flow_of (length net.worths) net.pairs ls).rest k ≡ sum_giving
      (gives_rest (get_or net.pairs k (0, 0))) ls
  carried k h = rest_at (length net.worths) net.pairs ls k h
      ∙ sym (sum_giving_in_order (Proper (length net.worths) (has_pair net.pairs))
      (gives_rest (get_or net.pairs k (0, 0))) None ls
      (tells_rest (length net.worths) (has_pair net.pairs) (get_or net.pairs k (0, 0))) order)

  from_source : (b : ℕ) → b < length net.worths → amount_at (flow_of (length net.worths) net.pairs ls).source b
      ≡ sum_giving (gives_source b) ls
  from_source b h = source_at (length net.worths) net.pairs ls b h
      ∙ sym (sum_giving_in_order (Proper (length net.worths) (has_pair net.pairs)) (gives_source b) None ls
      (tells_source (length net.worths) (has_pair net.pairs) b) order)

  to_sink : (b : ℕ) → b < length net.worths → amount_at (flow_of (length net.worths) net.pairs ls).sink b ≡ sum_giving
      (gives_sink b) ls
  to_sink b h = sink_at (length net.worths) net.pairs ls b h
      ∙ sym (sum_giving_in_order (Proper (length net.worths) (has_pair net.pairs)) (gives_sink b) None ls
      (tells_sink (length net.worths) (has_pair net.pairs) b) order)

  model : (l : BodyLine) → Has l ls → is_of_model (has_pair net.pairs) l.kind l ≡ true
  model l h = (has_good (Proper (length net.worths) (has_pair net.pairs)) None ls order l h).pair

  in_over : (b : ℕ) → inflow net.pairs (flow_of (length net.worths) net.pairs ls).rest (length net.pairs) b ≡ end_sum
      (λ l. l.other) b ls
  in_over b =
      total-same _ (λ k. where_so (eqb (to_at net.pairs k) b)
      (sum_giving (gives_rest (get_or net.pairs k (0, 0))) ls)) (length net.pairs)
      (λ k h. ap (where_so (eqb (to_at net.pairs k) b)) (carried k h))
      ∙ ends_of_lines (λ q. q.1) b net.pairs ls rests.rising model

  out_over : (b : ℕ) → outflow net.pairs (flow_of (length net.worths) net.pairs ls).rest (length net.pairs) b
      ≡ end_sum (λ l. l.block) b ls
  out_over b =
      total-same _ (λ k. where_so (eqb (from_at net.pairs k) b)
      (sum_giving (gives_rest (get_or net.pairs k (0, 0))) ls)) (length net.pairs)
      (λ k h. ap (where_so (eqb (from_at net.pairs k) b)) (carried k h))
      ∙ ends_of_lines (λ q. q.0) b net.pairs ls rests.rising model

  pub balanced : (b : ℕ) → b < length net.worths → IsBalancedAt net (flow_of (length net.worths) net.pairs ls) b ↔
      (balance_of ls b ≡ zero_amount)
  balanced b h =
      balance_tells (balance_of ls b) (sum_giving (gives_source b) ls) (end_sum (λ l. l.other) b ls)
      (sum_giving (gives_sink b) ls) (end_sum (λ l. l.block) b ls) _ _ _ _ (balance_is ls b) (from_source b h)
      (in_over b) (to_sink b h) (out_over b)

  pub still_left : source_residual net (flow_of (length net.worths) net.pairs ls) ≡ residual_after net.worths ls
  still_left =
      total-minus (λ b. positive (amount_at net.worths b))
      (amount_at (flow_of (length net.worths) net.pairs ls).source) (length net.worths)
      ∙ ap (minus (total (λ b. positive (amount_at net.worths b)) (length net.worths)))
      (total-same _ (λ b. sum_giving (gives_source b) ls) (length net.worths) from_source
      ∙ sources_of_lines (length net.worths) ls
      (λ l h. (has_good (Proper (length net.worths) (has_pair net.pairs)) None ls order l h).block))

-- limits

all_has : (P : BodyLine → Type 0) (ls : List BodyLine) → All P ls → (l : BodyLine) → Has l ls → P l
all_has P [] a l h = absurd h
all_has P (m ∷ ms) a l h = elim h
    [ inl e ↦ subst P e (a 0 m (omega arith)) | inr i ↦ all_has P ms (λ k d j. a (suc k) d (omega arith)) l i ]

amount_so : (P : Amount → Type 0) (gives : BodyLine → Bool) (ls : List BodyLine) → P zero_amount
    → ((l : BodyLine) → Has l ls → gives l ≡ true → P (amount_of l)) → P (given_amount gives zero_amount ls)
amount_so P gives ls z f = elim (found gives ls zero_amount)
    [ inl e ↦ subst P (sym e) z | inr y ↦ subst P y.amount (f y.line y.held y.so) ]

kept_as : (ws : List Amount) (l : BodyLine) (k : LineKind) → l.kind ≡ k → keeps_by l.kind ws l → keeps_by k ws l
kept_as ws l k e h = subst (λ (x : LineKind). keeps_by x ws l) e h

source_kept : (ws : List Amount) (ls : List BodyLine) (b : ℕ) → KeepLimits ws ls
    → AtMost zero_amount (given_amount (gives_source b) zero_amount ls)
    × AtMost (given_amount (gives_source b) zero_amount ls) (positive (amount_at ws b))
source_kept ws ls b a =
    amount_so (λ x. AtMost zero_amount x × AtMost x (positive (amount_at ws b))) (gives_source b) ls
    (AtMost-refl zero_amount, NonNeg-positive (amount_at ws b))
    (λ l h g. let q = source_so b l g in let r = kept_as ws l Source q.0
    (all_has (λ x. keeps_by x.kind ws x) ls a l h) in
    (r.0, subst (λ (i : ℕ). AtMost (amount_of l) (positive (amount_at ws i))) q.1 r.1))

rest_kept : (ws : List Amount) (ls : List BodyLine) (x : ℕ × ℕ) → KeepLimits ws ls
    → AtMost zero_amount (given_amount (gives_rest x) zero_amount ls)
rest_kept ws ls x a =
    amount_so (AtMost zero_amount) (gives_rest x) ls (AtMost-refl zero_amount)
    (λ l h g. kept_as ws l Rest (rest_so x l g).0 (all_has (λ y. keeps_by y.kind ws y) ls a l h))

sink_kept : (ws : List Amount) (ls : List BodyLine) (b : ℕ) → KeepLimits ws ls
    → AtMost zero_amount (given_amount (gives_sink b) zero_amount ls)
    × AtMost (given_amount (gives_sink b) zero_amount ls) (negative (amount_at ws b))
sink_kept ws ls b a =
    amount_so (λ x. AtMost zero_amount x × AtMost x (negative (amount_at ws b))) (gives_sink b) ls
    (AtMost-refl zero_amount, NonNeg-negative (amount_at ws b))
    (λ l h g. let q = sink_so b l g in let r = kept_as ws l Sink q.0 (all_has (λ x. keeps_by x.kind ws x) ls a l h) in
    (r.0, subst (λ (i : ℕ). AtMost (amount_of l) (negative (amount_at ws i))) q.1 r.1))

pub limited : (net : NetView) (ls : List BodyLine) → KeepLimits net.worths ls
    → NoneBelowZero (flow_of (length net.worths) net.pairs ls)
    × AllWithin net (flow_of (length net.worths) net.pairs ls)
limited net ls a =
    let d = denoted (length net.worths) net.pairs ls in (
      record {
        source = λ b h. subst (AtMost zero_amount) (sym (d.source b (omega (arith, h, d.covers.sources))))
            (source_kept net.worths ls b a).0;
        rest = λ k h. subst (AtMost zero_amount) (sym (d.rest k (omega (arith, h, d.covers.rests))))
            (rest_kept net.worths ls (get_or net.pairs k (0, 0)) a);
        sink = λ b h. subst (AtMost zero_amount) (sym (d.sink b (omega (arith, h, d.covers.sinks))))
            (sink_kept net.worths ls b a).0;
      },
      λ b h. (
        subst (λ (x : Amount). AtMost x (positive (amount_at net.worths b))) (sym (d.source b h))
            (source_kept net.worths ls b a).1,
        subst (λ (x : Amount). AtMost x (negative (amount_at net.worths b))) (sym (d.sink b h))
            (sink_kept net.worths ls b a).1,
      ),
    )

pub sums_tell : LineSumsTell
sums_tell counts net number ps rests fine =
    let has : ℕ → ℕ → Bool = has_pair net.pairs in
    let n = length net.worths in
    let ls = lines_of_pieces counts n ps in
    let good = stands_in_order counts n has None number ps fine in
    let order = in_order_weaker (Good counts n has) (Proper n has) (good_is_proper counts n has) None ls good in
    let pit = worth_is net.worths (pit_of ls) (ascending counts n has None ls good) (known counts n has None ls good) in
    let left = still_left net ls rests order in
    record {
      denotes = denoted n net.pairs ls;
      balanced = balanced net ls rests order;
      tight = (λ h. sym pit ∙ h ∙ left, λ h. pit ∙ h ∙ sym left);
      limits = limited net ls;
    }
