use Rattle.std.proofs.Common.{sym, ◌∙◌}
use Rattle.std.proofs.lemmas.Result.{err_from_is_err_and}
use Rattle.mine_inputs.proofs.Priced.{settings_told, unused_told}
use Rattle.mine_inputs.proofs.priced_inputs.settings_in.Goals as goal

pub returns-in_err-settings-clause-read : goal.returns-in_err-settings-clause-read
returns-in_err-settings-clause-read c =
    let p = err_from_is_err_and c.from_residual.result c.from_residual.ensures.1 in
    rw (p.1, p.2) (settings_told c.args.unused.now c.args.text.now c.in_err-settings.field-0.0 c.requires
    c.in_err-settings.ensures)

pub returns-in-Some-clause-read : goal.returns-in-Some-clause-read
returns-in-Some-clause-read c =
    unused_told c.args.unused.now c.args.text.now c.in_ok-settings.settings c.in-Some.key c.requires
    c.in_ok-settings.ensures (sym c.first_unused.ensures ∙ c.in-Some.is)
