use Rattle.std.proofs.Common.{subst, sym, rules}
use Rattle.ordered_group.specs.Amount.{Amount, minus, FitsPair}
use Rattle.async_step.proofs.Becoming.{fits_value, too_large}
use Rattle.async_step.proofs.state.State.move_back.Goals as goal

pub returns-in_err-less : goal.returns-in_err-less
returns-in_err-less g c =
    too_large _ _ _ _ c.from_residual.result (search rules)
    (λ h. (rw c.in_err-less.ensures.ok_part at c.try_sub.ensures)
    (subst (λ (a : Amount). FitsPair (minus a (g.G.OrderedGroup.parts_of c.args.amount))) (sym c.flow.ensures)
    (fits_value _ _ _ (h.flow c.args.port.slot))))
