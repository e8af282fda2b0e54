use Rattle.std.proofs.Common.{◌+◌, rules}
use Rattle.async_step.specs.Views.{state_of}
use Rattle.async_step.proofs.Becoming.{label_here, too_large}
use Rattle.async_step.proofs.state.State.raise_label.Goals as goal

pub returns-in_err-label : goal.returns-in_err-label
returns-in_err-label g c =
    let large = rw c.in_err-label.ensures.ok_part at c.checked_add.ensures in
    too_large _ _ _ _ c.from_residual.result (search rules)
    (λ h. large (label_here (state_of c.args.self.now).label c.args.block (c.args.best.label + 1)
    (h.label c.args.block)))
