use Rattle.std.proofs.Common.{subst, sym, rules}
use Rattle.ordered_group.specs.Amount.{Amount, minus, FitsPair}
use Rattle.async_step.specs.Views.{state_of}
use Rattle.async_step.proofs.Becoming.{fits_value, too_large}
use Rattle.async_step.proofs.state.State.take_excess.Goals as goal

pub returns-in_err-less : goal.returns-in_err-less
returns-in_err-less g c =
    let d = g.G.OrderedGroup.parts_of c.args.amount in
    let f = (state_of c.args.self.now).excess in
    let large = rw c.in_err-less.ensures.ok_part at c.try_sub.ensures in
    too_large _ _ _ _ c.from_residual.result (search rules)
    (λ h. large (subst (λ (a : Amount). FitsPair (minus a d)) (sym c.excess.ensures)
    (fits_value f c.args.block (minus (f c.args.block) d) (h.excess c.args.block))))
