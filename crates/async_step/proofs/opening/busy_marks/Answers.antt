use Rattle.fixed_worth.proofs.Common.{◌≡◌, ◌+◌, ap, subst, sym, ◌∙◌, length, map, ℕ, Bool, List, not, get_or-map}
use Rattle.ordered_group.specs.Prelude.{zero_amount, is_zero, amount_at}
use Rattle.async_step.proofs.Changes.{IsMarkedUpTo, marked_next}
use Rattle.async_step.proofs.opening.busy_marks.Goals as goal

pub loop-b-preserved : goal.loop-b-preserved
loop-b-preserved g c =
    let f = g.G.OrderedGroup.parts_of in
    let b = c.loop-b.b in
    let test : ℕ → Bool = λ b. not (is_zero (amount_at (map f c.args.excess.now) b)) in
    let here : f c.index-excess-b.result ≡ amount_at (map f c.args.excess.now) b = ap f c.index-excess-b.is
    ∙ sym (get_or-map f c.args.excess.now b c.index-excess-b.result zero_amount c.loop-b-test.true) in
    let next = marked_next test (length c.args.excess.now) c.loop-b.marks b (not c.is_zero.result) c.loop-b.invariant
    c.loop-b-test.true (ap not c.is_zero.ensures ∙ ap (λ a. not (is_zero a)) here) in
    subst (λ (ms : List Bool). IsMarkedUpTo test (length c.args.excess.now) ms (b + 1)) (sym c.set.ensures) next
