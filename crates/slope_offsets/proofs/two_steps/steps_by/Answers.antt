use Rattle.fixed_worth.proofs.Common.{◌≡◌, ◌<◌, ◌+◌, ℕ, List, [], length, get_or, sym, subst, ◌∙◌, rules}
use Rattle.fixed_worth.proofs.Common.{get_or_default}
use Rattle.std.specs.Global.{Vec}
use Rattle.slope_offsets.specs.Prelude.{Offset, AreStepsOfEach, AreStepsOfRegions, listed_at}
use Rattle.slope_offsets.proofs.FirstSteps.{region_more}
use Rattle.slope_offsets.proofs.two_steps.steps_by.Goals as goal

pub loop-pattern-preserved : goal.loop-pattern-preserved
loop-pattern-preserved c =
    let ps = c.args.patterns.now in
    let k = c.loop-pattern.pattern-index in
    let inside : k < length ps = search (rules, c.loop-pattern-test.true) in
    let item : get_or ps k c.pattern-item.result ≡ c.offsets.result.now = search
    (rules, c.pattern-item.is, c.offsets.ensures.is) in
    let at : listed_at ps k ≡ c.offsets.result.now = get_or_default ps k [] c.pattern-item.result inside ∙ item in
    let P : List (Vec (Vec ℕ)) → Type 0 = λ xs. AreStepsOfRegions c.args.selection ps c.args.all.now (k + 1) xs in
    let S : List Offset → Type 0 = λ os. AreStepsOfEach c.args.selection os c.args.all.now
    (length os) c.in_ok-steps_of_each.field-0.items in
    subst P (sym c.in_ok-push.ensures.items)
    (region_more c.args.selection ps c.args.all.now k c.loop-pattern.steps.items c.in_ok-steps_of_each.field-0
    c.loop-pattern.invariant (subst S (sym at) c.in_ok-steps_of_each.ensures))
