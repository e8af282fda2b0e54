use Rattle.fixed_worth.proofs.Common.{◌≡◌, ◌+◌, ◌∙◌, not, ◌&&◌, ◌||◌, ap, ap₂, subst, sym, refl, set, ℕ, List, Bool}
use Rattle.fixed_worth.proofs.Common.{true, arith, slice_index, length-map, get_or-map}
use Rattle.ordered_group.specs.Prelude.{Amount, zero_amount, is_zero, amount_at}
use Rattle.machine_law.specs.declared.operations.Operation.{Operation}
use Rattle.machine_law.specs.Prelude.{is_idle, is_positive, LooksAtPort}
use Rattle.async_step.specs.Prelude.{StateView, view_of, IsState, operation_at, is_waiting, is_busy, after_capacity_by}
use Rattle.async_step.proofs.Changes.{state_operation, state_works}
use Rattle.async_step.proofs.Scanning.{scan_works, scan_in_place, step_in_place, idle_now, becomes}
use Rattle.async_step.proofs.state.State.see_capacity.Goals as goal

pub see-requires-after_bounds : goal.see-requires-after_bounds
see-requires-after_bounds g c κs within = scan_in_place _ _ _ _ _ _ refl c.self.view_is c.requires.block
    c.index_mut.ensures.value _ c.requires.scan

pub invariant_of-self : goal.invariant_of-self
invariant_of-self g c =
    let f = g.G.OrderedGroup.parts_of in
    let m = c.self.inside in
    let v : StateView = view_of f m.excess.items m.label.items m.source.items m.sink.items m.flow.items
    m.operation.items m.at_source m.at_sink m.steps in
    let b = c.args.b in
    let step : ℕ → Operation Amount → Operation Amount = λ n o. after_capacity_by c.args.ports n (f c.args.capacity)
    o in
    let s = step_in_place f v c.args.self.now m.operation.items b c.index_mut.result.now refl c.self.view_is
    c.requires.block c.index_mut.ensures.value step c.index-label.result.now c.see.new.operation
    c.self.invariant.sized.label c.index-label.ensures c.see.ensures in
    let o : Operation Amount = step (slice_index v.label b) (operation_at v.operation b) in
    let i : true ≡ is_idle o = sym c.if-is_idle.true
    ∙ idle_now f v m.operation.items b c.see.new.operation c.index.result.now o c.is_idle.result s c.index.ensures
    c.is_idle.ensures in
    let e : f c.index-excess.result.now ≡ amount_at v.excess b = let l = s.within in ap f c.index-excess.ensures
    ∙ sym (get_or-map f m.excess.items b c.index-excess.result.now zero_amount
    (omega (arith, l, c.self.invariant.sized.excess, length-map m.excess.items f))) in
    let r : c.set.new.self ≡ set m.waiting b (is_waiting (amount_at v.excess b) o) = c.set.ensures
    ∙ ap (set m.waiting b) (c.is_positive.ensures ∙ ap₂ (λ t x. t && is_positive x) i e) in
    let u : c.set-then-is_idle.new.self ≡ set m.busy b (is_busy (amount_at v.excess b) o) = c.set-then-is_idle.ensures
    ∙ ap (set m.busy b) (ap not c.is_zero.ensures ∙ ap₂ (λ t x. not t || not (is_zero x)) i e) in
    subst (λ (xs : List (Operation Amount)). IsState (record v { operation = xs; steps = m.steps + 1 }) c.set.new.self
    c.set-then-is_idle.new.self) (sym s.list)
    (subst (λ (ts : List Bool). IsState (record v { operation = set v.operation b o; steps = m.steps + 1 }) ts
    c.set-then-is_idle.new.self) (sym r)
    (subst (λ (ts : List Bool). IsState (record v { operation = set v.operation b o; steps = m.steps + 1 })
    (set m.waiting b (is_waiting (amount_at v.excess b) o)) ts) (sym u)
    (state_operation v m.waiting m.busy c.self.invariant b o (m.steps + 1) s.within)))

pub invariant_of-self-else-is_idle : goal.invariant_of-self-else-is_idle
invariant_of-self-else-is_idle g c =
    let f = g.G.OrderedGroup.parts_of in
    let m = c.self.inside in
    let v : StateView = view_of f m.excess.items m.label.items m.source.items m.sink.items m.flow.items
    m.operation.items m.at_source m.at_sink m.steps in
    let b = c.args.b in
    let step : ℕ → Operation Amount → Operation Amount = λ n o. after_capacity_by c.args.ports n (f c.args.capacity)
    o in
    let s = step_in_place f v c.args.self.now m.operation.items b c.index_mut.result.now refl c.self.view_is
    c.requires.block c.index_mut.ensures.value step c.index-label.result.now c.see.new.operation
    c.self.invariant.sized.label c.index-label.ensures c.see.ensures in
    let o : Operation Amount = step (slice_index v.label b) (operation_at v.operation b) in
    let scan : LooksAtPort c.args.ports (operation_at v.operation b) = subst
    (λ (w : StateView). LooksAtPort c.args.ports (operation_at w.operation b)) (sym c.self.view_is)
    c.requires.scan in
    subst (λ (xs : List (Operation Amount)). IsState (record v { operation = xs; steps = m.steps + 1 }) m.waiting
    m.busy) (sym s.list)
    (state_works v m.waiting m.busy c.self.invariant b o (m.steps + 1) s.within
    (scan_works c.args.ports (operation_at v.operation b) scan)
    (sym (idle_now f v m.operation.items b c.see.new.operation c.index.result.now o c.is_idle.result s c.index.ensures
    c.is_idle.ensures) ∙ c.if-is_idle.false))

pub returns-then-is_idle : goal.returns-then-is_idle
returns-then-is_idle g c =
    let step : ℕ → Operation Amount → Operation Amount = λ n o. after_capacity_by c.args.ports n
    (g.G.OrderedGroup.parts_of c.args.capacity) o in
    becomes _ _ _ _ step c.self.view_is
    (step_in_place _ _ _ _ _ _ refl c.self.view_is c.requires.block c.index_mut.ensures.value step _ _
    c.self.invariant.sized.label c.index-label.ensures c.see.ensures).list

pub returns-else-is_idle : goal.returns-else-is_idle
returns-else-is_idle g c =
    let step : ℕ → Operation Amount → Operation Amount = λ n o. after_capacity_by c.args.ports n
    (g.G.OrderedGroup.parts_of c.args.capacity) o in
    becomes _ _ _ _ step c.self.view_is
    (step_in_place _ _ _ _ _ _ refl c.self.view_is c.requires.block c.index_mut.ensures.value step _ _
    c.self.invariant.sized.label c.index-label.ensures c.see.ensures).list
