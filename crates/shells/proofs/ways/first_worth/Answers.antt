use Rattle.fixed_worth.proofs.Common.{◌≡◌, ◌≢◌, ℕ, ◌<◌, pos, length, get_or, inl, inr, rules, sym, ap, ◌∙◌, arith}
use Rattle.fixed_worth.proofs.Common.{cases_lt, of_z, w128, to_z-of_z}
use Rattle.shells.specs.Prices.{worths_by}
use Rattle.shells.proofs.Greatest.{worths_count, worth_by_way, first_found, none_found}
use Rattle.shells.proofs.ways.first_worth.Goals as goal

pub returns-then-worth : goal.returns-then-worth
returns-then-worth c =
    let ws = worths_by c.args.ways.now c.args.thousandths c.args.b in
    let at = worth_by_way c.args.ways.now c.args.thousandths c.args.b c.loop-i.i c.index-ways-i.result
    c.loop-i-test.true (sym c.index-ways-i.is) in
    let l : c.loop-i.i < length ws = omega
    (arith, worths_count c.args.ways.now c.args.thousandths c.args.b, c.loop-i-test.true) in
    let same : c.worth.result ≡ c.args.worth = search rules in
    let kept = to_z-of_z w128 c.args.worth c.ranges.worth in
    let before : (j : ℕ) → j < c.loop-i.i → get_or ws j (pos 0) ≢ c.args.worth = λ j h e. c.loop-i.invariant j h
    (e ∙ sym kept) in
    first_found ws c.loop-i.i c.args.worth l before (at ∙ sym c.worth.ensures.is ∙ same)

pub loop-i-preserved : goal.loop-i-preserved
loop-i-preserved c =
    let ws = worths_by c.args.ways.now c.args.thousandths c.args.b in
    let at = worth_by_way c.args.ways.now c.args.thousandths c.args.b c.loop-i.i c.index-ways-i.result
    c.loop-i-test.true (sym c.index-ways-i.is) in
    let kept = to_z-of_z w128 c.args.worth c.ranges.worth in
    λ j h e. elim (cases_lt j c.loop-i.i) [
      | inl l ↦ c.loop-i.invariant j l e
      | inr m ↦
          let last : j ≡ c.loop-i.i = omega (arith, h, m) in
          c.if-worth.false (ap (of_z w128) (c.worth.ensures.is ∙ sym at ∙ sym (ap (λ i. get_or ws i (pos 0)) last) ∙ e
          ∙ kept))
    ]

pub returns : goal.returns
returns c =
    let ws = worths_by c.args.ways.now c.args.thousandths c.args.b in
    let kept = to_z-of_z w128 c.args.worth c.ranges.worth in
    none_found ws c.args.worth
    (λ j h e. c.loop-i.invariant j
    (omega (arith, h, worths_count c.args.ways.now c.args.thousandths c.args.b, c.loop-i-test.false))
    (e ∙ sym kept))
