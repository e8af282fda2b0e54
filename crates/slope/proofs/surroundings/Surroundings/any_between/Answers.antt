use Rattle.fixed_worth.proofs.Common.{◌≡◌, ◌+◌, ℕ, List, take, get_or, length, sym, ap, subst, ◌∙◌, arith, take-length}
use Rattle.fixed_worth.proofs.Common.{iff_false}
use Rattle.slope.specs.Prelude.{AreApartBelow, SurroundingsView, StandsAtOffset, StandsNone, LiesAtNone}
use Rattle.slope.proofs.TwoSteps.{none_more, none_lies, other_lies}
use Rattle.slope.proofs.surroundings.Surroundings.any_between.Goals as goal
use Rattle.slope.proofs.surroundings.Surroundings.any_between.Goals.{in-Some+else-leads_on_from, in_default}

pub loop-step-preserved : goal.loop-step-preserved
loop-step-preserved c =
    let u = c.at.new.self in
    let i = c.args.i in
    let steps = c.args.steps.now in
    let k = c.loop-step.step-index in
    let a = get_or steps k 0 in
    let same = c.at.ensures.same ∙ c.loop-step.invariant.0 in
    let none = subst (λ (x : SurroundingsView). LiesAtNone x i (take k steps)) (sym c.at.ensures.same)
    c.loop-step.invariant.1 in
    let apart = subst (λ (x : SurroundingsView). AreApartBelow x.model x.model.blocks) (sym same) c.requires.apart in
    elim c.match-at.branch [
      | in-Some+else-leads_on_from w ↦
          let stands = subst (λ (x : SurroundingsView). StandsAtOffset x a w.in-Some.block) (sym c.at.ensures.same)
          w.in-Some.ensures.stands in
          let never = iff_false w.leads_on_from.ensures w.if-leads_on_from.false in (
            same,
            none_more u i steps k 0 c.loop-step-test.true none
                (λ q. other_lies u apart i a w.in-Some.block stands never q),
          )
      | in_default w ↦
          let nothing = rw w.in_default.is at c.at.ensures.stands in
          let there = subst (λ (x : SurroundingsView). StandsNone x a) (sym c.at.ensures.same) nothing in
          (same, none_more u i steps k 0 c.loop-step-test.true none (λ q. none_lies u i a there q))
    ]

pub returns-clause-none : goal.returns-clause-none
returns-clause-none c = λ e.
    let steps = c.args.steps.now in
    let at : c.loop-step.step-index ≡ length steps = omega
    (arith, c.loop-step-test.false, c.loop-step.auto.step-index-end) in
    let whole : take c.loop-step.step-index steps ≡ steps = ap (λ j. take j steps) at ∙ take-length steps in
    subst (λ (x : SurroundingsView). LiesAtNone x c.args.i steps) c.loop-step.invariant.0
    (subst (λ (xs : List ℕ). LiesAtNone c.loop-step.self c.args.i xs) whole c.loop-step.invariant.1)
