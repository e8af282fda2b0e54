use Rattle.std.proofs.Common.{◌+◌, subst, sym, refl, ℕ, List}
use Rattle.ordered_group.specs.Amount.{Amount}
use Rattle.machine_law.specs.declared.operations.Operation.{Operation}
use Rattle.async_step.specs.Prelude.{StateView, view_of, IsState, operation_at, after_label_by}
use Rattle.machine_law.specs.Reads.{LooksAtPort}
use Rattle.async_step.proofs.Changes.{state_works}
use Rattle.async_step.proofs.Scanning.{scan_works, chosen_works, scan_in_place, step_in_place, becomes}
use Rattle.async_step.proofs.state.State.choose_port.Goals as goal

pub choose-requires-after_bounds : goal.choose-requires-after_bounds
choose-requires-after_bounds g c κs within = scan_in_place _ _ _ _ _ _ refl c.self.view_is c.requires.block
    c.index_mut.ensures.value _ c.requires.scan

pub invariant_of-self : goal.invariant_of-self
invariant_of-self g c =
    let m = c.self.inside in
    let v : StateView = view_of g.G.OrderedGroup.parts_of m.excess.items m.label.items m.source.items m.sink.items
    m.flow.items m.operation.items m.at_source m.at_sink m.steps in
    let s = step_in_place _ _ _ _ _ _ refl c.self.view_is c.requires.block c.index_mut.ensures.value
    (λ n o. after_label_by c.args.ports n c.args.port c.args.label o) _ _ c.self.invariant.sized.label
    c.index-own.ensures c.choose.ensures in
    let scan : LooksAtPort c.args.ports (operation_at v.operation c.args.b) = subst
    (λ (w : StateView). LooksAtPort c.args.ports (operation_at w.operation c.args.b)) (sym c.self.view_is)
    c.requires.scan in
    subst (λ (xs : List (Operation Amount)). IsState (record v { operation = xs; steps = m.steps + 1 }) m.waiting
    m.busy) (sym s.list) (state_works _ _ _ c.self.invariant _ _ _ s.within (scan_works _ _ scan)
    (chosen_works _ _ _ _ _ scan))

pub returns : goal.returns
returns g c =
    let step : ℕ → Operation Amount → Operation Amount = λ n o. after_label_by c.args.ports n c.args.port c.args.label
    o in
    becomes _ _ _ _ step c.self.view_is
    (step_in_place _ _ _ _ _ _ refl c.self.view_is c.requires.block c.index_mut.ensures.value step _ _
    c.self.invariant.sized.label c.index-own.ensures c.choose.ensures).list
