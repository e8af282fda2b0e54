use Rattle.fixed_worth.proofs.Common.{◌≡◌, ◌<◌, ◌∙◌, not, ◌&&◌, ◌||◌, ap, subst, sym, set, List, Bool, length, arith}
use Rattle.fixed_worth.proofs.Common.{map-set, length-map, get_or-map, common_steps}
use Rattle.ordered_group.specs.Amount.{Amount, is_zero}
use Rattle.machine_law.specs.declared.operations.Operation.TheVariants.{Idle}
use Rattle.machine_law.specs.Prelude.{operation_as, is_idle, is_positive}
use Rattle.async_step.specs.Views.{StateView, view_of, IsState, operation_at, is_waiting, is_busy}
use Rattle.async_step.proofs.Changes.{state_excess}
use Rattle.async_step.proofs.state.State.set_excess.Goals as goal

pub invariant_of-self : goal.invariant_of-self
invariant_of-self g c =
    let f = g.G.OrderedGroup.parts_of in
    let m = c.self.inside in
    let v : StateView = view_of f m.excess.items m.label.items m.source.items m.sink.items m.flow.items
    m.operation.items m.at_source m.at_sink m.steps in
    let x = f c.args.amount in
    let b = c.args.b in
    let l : b < length v.operation = omega
    (arith, c.requires, ap (λ (w : StateView). length w.operation) c.self.view_is) in
    let k : b < length m.operation.items = omega (arith, l, length-map m.operation.items (operation_as f)) in
    let o : operation_as f c.index.result.now ≡ operation_at v.operation b = ap (operation_as f) c.index.ensures
    ∙ sym (get_or-map (operation_as f) m.operation.items b c.index.result.now Idle k) in
    let i : c.is_idle-idle.result ≡ is_idle (operation_at v.operation b) = c.is_idle-idle.ensures ∙ ap is_idle o in
    let r : c.set.new.self ≡ set m.waiting b (is_waiting x (operation_at v.operation b)) = c.set.ensures
    ∙ ap (set m.waiting b) (c.is_waiting.ensures ∙ ap (λ t. t && is_positive x) i) in
    let u : c.set-2.new.self ≡ set m.busy b (is_busy x (operation_at v.operation b)) = c.set-2.ensures
    ∙ ap (set m.busy b) (c.is_busy.ensures ∙ ap (λ t. not t || not (is_zero x)) i) in
    subst (λ (xs : List Amount). IsState (record v { excess = xs }) c.set.new.self c.set-2.new.self)
    (sym (map-set f m.excess.items b c.args.amount))
    (subst (λ (ts : List Bool). IsState (record v { excess = set v.excess b x }) ts c.set-2.new.self) (sym r)
    (subst (λ (ts : List Bool). IsState (record v { excess = set v.excess b x })
    (set m.waiting b (is_waiting x (operation_at v.operation b))) ts) (sym u)
    (state_excess v m.waiting m.busy c.self.invariant b x l)))

pub returns : goal.returns
returns g c = grind (arith, common_steps, map-set)
