use Rattle.fixed_worth.proofs.Common.{◌≡◌, ◌<◌, ◌+◌, ◌∙◌, not, ◌&&◌, ◌||◌, ap, ap₂, subst, sym, set, List, Bool, length}
use Rattle.fixed_worth.proofs.Common.{arith, map-set, length-map, get_or-map, common_steps}
use Rattle.ordered_group.specs.Prelude.{Amount, zero_amount, is_zero, amount_at}
use Rattle.machine_law.specs.declared.operations.Operation.{Operation}
use Rattle.machine_law.specs.Prelude.{operation_as, is_positive}
use Rattle.async_step.specs.Views.{StateView, view_of, IsState, is_waiting, is_busy}
use Rattle.async_step.proofs.Changes.{state_operation}
use Rattle.async_step.proofs.state.State.go_on.Goals as goal

pub invariant_of-self : goal.invariant_of-self
invariant_of-self g c =
    let f = g.G.OrderedGroup.parts_of in
    let m = c.self.inside in
    let v : StateView = view_of f m.excess.items m.label.items m.source.items m.sink.items m.flow.items
    m.operation.items m.at_source m.at_sink m.steps in
    let o : Operation Amount = operation_as f c.args.operation in
    let b = c.args.b in
    let l : b < length v.operation = omega
    (arith, c.requires.block, ap (λ (w : StateView). length w.operation) c.self.view_is) in
    let k : b < length m.excess.items = omega (arith, l, c.self.invariant.sized.excess, length-map m.excess.items f) in
    let e : f c.index-excess.result.now ≡ amount_at v.excess b = ap f c.index-excess.ensures
    ∙ sym (get_or-map f m.excess.items b c.index-excess.result.now zero_amount k) in
    let r : c.set.new.self ≡ set m.waiting b (is_waiting (amount_at v.excess b) o) = c.set.ensures
    ∙ ap (set m.waiting b) (c.is_waiting.ensures ∙ ap₂ (λ t x. t && is_positive x) c.is_idle-idle.ensures e) in
    let u : c.set-2.new.self ≡ set m.busy b (is_busy (amount_at v.excess b) o) = c.set-2.ensures
    ∙ ap (set m.busy b) (c.is_busy.ensures ∙ ap₂ (λ t x. not t || not (is_zero x)) c.is_idle-idle.ensures e) in
    subst (λ (xs : List (Operation Amount)). IsState (record v { operation = xs; steps = m.steps + 1 }) c.set.new.self
    c.set-2.new.self) (sym (map-set (operation_as f) m.operation.items b c.args.operation))
    (subst (λ (ts : List Bool). IsState (record v { operation = set v.operation b o; steps = m.steps + 1 }) ts
    c.set-2.new.self) (sym r)
    (subst (λ (ts : List Bool). IsState (record v { operation = set v.operation b o; steps = m.steps + 1 })
    (set m.waiting b (is_waiting (amount_at v.excess b) o)) ts) (sym u)
    (state_operation v m.waiting m.busy c.self.invariant b o (m.steps + 1) l)))

pub returns : goal.returns
returns g c = grind (arith, common_steps, map-set)
