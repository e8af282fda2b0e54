use Rattle.fixed_worth.proofs.Common.{◌+◌, ℕ, List, Vec, Global, ap, subst, sym, ◌∙◌, iff_false}
use Rattle.slope_offsets.specs.Prelude.{AreFirstSteps}
use Rattle.slope_offsets.proofs.FirstSteps.{no_steps, step_more, step_passed}
use Rattle.slope_offsets.proofs.two_steps.steps_to.Goals as goal
use Rattle.slope_offsets.proofs.two_steps.steps_to.Goals.{then-leads_on+in_ok-push, else-leads_on}

pub loop-a-init : goal.loop-a-init
loop-a-init c = no_steps _ _ _ _ c.new-steps.ensures.items

pub loop-a-preserved : goal.loop-a-preserved
loop-a-preserved c =
    let os = c.args.offsets.now in
    let all = c.args.all.now in
    let whole = c.args.whole in
    let k = c.loop-a.a in
    let items_of : Vec ℕ Global → List ℕ = λ v. v.items in
    let P : List ℕ → Type 0 = λ xs. AreFirstSteps os all whole (k + 1) xs in
    elim c.if-leads_on.branch [
      | then-leads_on+in_ok-push w ↦
          let onward = c.leads_on.ensures.0 w.if-leads_on.true in
          let t = step_more os all whole k _ c.loop-a.invariant _ c.loop-a-test.true onward in
          subst P (sym w.in_ok-push.ensures.items ∙ sym (ap items_of w.steps-is)) t
      | else-leads_on w ↦
          let never = iff_false c.leads_on.ensures w.if-leads_on.false in
          let t = step_passed os all whole k _ c.loop-a.invariant _ c.loop-a-test.true never in
          subst P (sym (ap items_of w.steps-is)) t
    ]
