use Rattle.fixed_worth.proofs.Common.{◌≡◌, ◌<◌, ◌+◌, ◌++◌, List, [], length, get_or, Contains, sym, subst, ◌∙◌, arith}
use Rattle.fixed_worth.proofs.Common.{rules, get_or_default}
use Rattle.slope_offsets.specs.Prelude.{Offset, listed_at}
use Rattle.slope_offsets.proofs.FirstSteps.{holds_more}
use Rattle.slope_offsets.proofs.two_steps.all_offsets.Goals as goal

pub loop-pattern-preserved : goal.loop-pattern-preserved
loop-pattern-preserved c =
    let ps = c.args.patterns.now in
    let k = c.loop-pattern.pattern-index in
    let inside : k < length ps = search (rules, c.loop-pattern-test.true) in
    let item : get_or ps k c.pattern-item.result ≡ c.offsets.result.now = search
    (rules, c.pattern-item.is, c.offsets.ensures.is) in
    let at : listed_at ps k ≡ c.offsets.result.now = get_or_default ps k [] c.pattern-item.result inside ∙ item in
    let grown : c.extend_from_slice.new.self.items ≡ c.loop-pattern.all.items ++ c.offsets.result.now = search
    (rules, c.in_ok-extend_from_slice.ensures) in
    holds_more ps k c.loop-pattern.all.items c.loop-pattern.invariant c.offsets.result.now
    c.extend_from_slice.new.self.items at grown

pub returns-clause-held : goal.returns-clause-held
returns-clause-held c = λ r o l k.
    let inside = c.loop-pattern.invariant r o (omega (arith, l, c.loop-pattern-test.false)) k in
    subst (λ (xs : List Offset). Contains xs o) (sym (c.in_ok-wide.ensures ∙ c.deref.ensures.value))
    (c.in_order-all.ensures.held o inside)
