use Rattle.fixed_worth.proofs.Common.{◌+◌, ℕ, List, subst, sym}
use Rattle.std.specs.Global.{Vec}
use Rattle.slope_offsets.specs.Gathering.{AreStepsOfEach}
use Rattle.slope_offsets.proofs.FirstSteps.{each_more}
use Rattle.slope_offsets.proofs.two_steps.steps_of_each.Goals as goal

pub loop-whole-preserved : goal.loop-whole-preserved
loop-whole-preserved c =
    let P : List (Vec ℕ) → Type 0 = λ xs. AreStepsOfEach c.args.selection c.args.offsets.now c.args.all.now
    (c.loop-whole.whole-index + 1) xs in
    subst P (sym c.in_ok-push.ensures.items)
    (each_more c.args.selection c.args.offsets.now c.args.all.now c.loop-whole.whole-index
    c.loop-whole.steps.items c.in_ok-selected_steps.field-0 c.loop-whole.invariant c.in_ok-selected_steps.ensures)
