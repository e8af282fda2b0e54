use Rattle.std.proofs.Common.{subst, sym, rules}
use Rattle.ordered_group.specs.Amount.{Amount, plus, FitsPair}
use Rattle.async_step.specs.Views.{state_of}
use Rattle.async_step.proofs.Becoming.{fits_value, too_large}
use Rattle.async_step.proofs.state.State.arrive_at_block.Goals as goal

pub returns-in_err-more : goal.returns-in_err-more
returns-in_err-more g c =
    let d = g.G.OrderedGroup.parts_of c.args.amount in
    let f = (state_of c.args.self.now).excess in
    let large = rw c.in_err-more.ensures.ok_part at c.try_add.ensures in
    too_large _ _ _ _ c.from_residual.result (search rules)
    (λ h. large (subst (λ (a : Amount). FitsPair (plus a d)) (sym c.excess.ensures)
    (fits_value f c.args.other (plus (f c.args.other) d) (h.excess c.args.other))))
