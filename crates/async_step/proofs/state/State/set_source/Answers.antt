use Rattle.fixed_worth.proofs.Common.{subst, sym, List, arith, map-set, common_steps}
use Rattle.ordered_group.specs.Amount.{Amount}
use Rattle.async_step.specs.Views.{StateView, view_of, IsState}
use Rattle.async_step.proofs.Changes.{state_source}
use Rattle.async_step.proofs.state.State.set_source.Goals as goal

pub invariant_of-self : goal.invariant_of-self
invariant_of-self g c =
    let m = c.self.inside in
    let v : StateView = view_of g.G.OrderedGroup.parts_of m.excess.items m.label.items m.source.items m.sink.items
    m.flow.items m.operation.items m.at_source m.at_sink m.steps in
    subst (λ (xs : List Amount). IsState (record v { source = xs }) m.waiting m.busy)
    (sym (map-set g.G.OrderedGroup.parts_of m.source.items c.args.b c.args.amount))
    (state_source v _ _ c.self.invariant _ _)

pub returns : goal.returns
returns g c = grind (arith, common_steps, map-set)
