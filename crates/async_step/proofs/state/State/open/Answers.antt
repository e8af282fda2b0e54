use Rattle.fixed_worth.proofs.Common.{◌≡◌, ◌∙◌, ap, sym, subst, map, length, replicate, List, arith, rules, refl, not}
use Rattle.fixed_worth.proofs.Common.{length-map}
use Rattle.ordered_group.specs.Prelude.{positive, is_zero, amount_at}
use Rattle.machine_law.specs.declared.operations.Operation.TheVariants.{Idle}
use Rattle.machine_law.specs.Prelude.{operation_as, is_positive}
use Rattle.async_step.specs.Views.{StateView, view_of, IsMarked}
use Rattle.async_step.proofs.Opens.{shows_opening, opens, opening_state, mapped_replicate}
use Rattle.async_step.proofs.state.State.open.Goals as goal

pub waiting_marks-requires-after_bounds : goal.waiting_marks-requires-after_bounds
waiting_marks-requires-after_bounds g c =
    let f = g.G.OrderedGroup.parts_of in
    let e : length c.in_ok-excess.excess.items ≡ length c.args.net.now.worths = sym
    (length-map c.in_ok-excess.excess.items f)
    ∙ (ap length c.in_ok-excess.ensures.are ∙ length-map c.args.net.now.worths positive) in
    omega (arith, e, ap length c.deref.ensures.value, c.rests-rests.ensures.blocks, c.len-few.ensures.all.blocks)

pub invariant_of-result : goal.invariant_of-result
invariant_of-result g c =
    let f = g.G.OrderedGroup.parts_of in
    let n = length c.worths.result.now in
    let es = c.in_ok-excess.excess.items in
    let v : StateView = view_of f es c.in_ok-label.label.items c.in_ok-source.source.items c.in_ok-sink.sink.items
    c.in_ok-flow.flow.items c.in_ok-operation.operation.items c.zero.result c.zero-2.result 0 in
    let worths : n ≡ length c.args.net.now.worths = sym (length-map c.worths.result.now f)
    ∙ ap length c.worths.ensures.is in
    let e : length v.excess ≡ n = ap length c.in_ok-excess.ensures.are
    ∙ (length-map c.args.net.now.worths positive ∙ sym worths) in
    let s : length v.source ≡ n = ap length c.in_ok-source.ensures.are
    ∙ (length-map c.args.net.now.worths positive ∙ sym worths) in
    let w = subst (λ (xs : List g.row.G.Denot). IsMarked (λ b. is_positive (amount_at (map f xs) b))
    (length xs) c.in_ok-waiting.waiting) c.deref.ensures.value c.in_ok-waiting.ensures in
    let u = subst (λ (xs : List g.row.G.Denot). IsMarked (λ b. not (is_zero (amount_at (map f xs) b)))
    (length xs) c.in_ok-busy.busy) c.deref-2.ensures.value c.in_ok-busy.ensures in
    opening_state v n (length es) c.in_ok-waiting.waiting c.in_ok-busy.busy
    (omega (arith, worths, c.rests-rests.ensures.blocks, c.len-few.ensures.all.blocks))
    (sym (length-map es f) ∙ e) e s
    (c.in_ok-label.ensures.items_if_clones_equal (λ y h. search rules)) c.in_ok-sink.ensures
    (ap (map (operation_as f)) c.in_ok-operation.ensures ∙ mapped_replicate (operation_as f) n Idle) w u

pub returns-clause-opening : goal.returns-clause-opening
returns-clause-opening g c =
    shows_opening c.args.net.now _ _ _ c.in_ok-excess.ensures.are
    (c.in_ok-label.ensures.items_if_clones_equal (λ y h. search rules)) c.in_ok-source.ensures.are
    c.in_ok-sink.ensures c.in_ok-flow.ensures
    (ap (map (operation_as g.G.OrderedGroup.parts_of)) c.in_ok-operation.ensures ∙ mapped_replicate _ _ _)
    c.zero.ensures c.zero-2.ensures refl

pub returns-clause-state : goal.returns-clause-state
returns-clause-state g c =
    let o : (view_of g.G.OrderedGroup.parts_of c.in_ok-excess.excess.items c.in_ok-label.label.items
    c.in_ok-source.source.items c.in_ok-sink.sink.items c.in_ok-flow.flow.items c.in_ok-operation.operation.items
    c.zero.result c.zero-2.result 0).operation ≡ replicate
    (length c.worths.result.now) Idle = ap (map (operation_as g.G.OrderedGroup.parts_of)) c.in_ok-operation.ensures
    ∙ mapped_replicate _ _ _ in
    opens _ _ _ _ c.worths.ensures.net (sym (length-map c.worths.result.now g.G.OrderedGroup.parts_of)
    ∙ ap length c.worths.ensures.is) (c.pairs-pairs.ensures ∙ ap length c.rests-rests.ensures.pairs)
    c.in_ok-excess.ensures.fit c.in_ok-excess.ensures.are
    c.in_ok-flow.ensures o (shows_opening c.args.net.now _ _ _ c.in_ok-excess.ensures.are
    (c.in_ok-label.ensures.items_if_clones_equal (λ y h. search rules)) c.in_ok-source.ensures.are
    c.in_ok-sink.ensures c.in_ok-flow.ensures o c.zero.ensures c.zero-2.ensures refl)
