use Rattle.std.proofs.lemmas.Result.{err_from_is_err_and}
use Rattle.report_engines.proofs.Readings.{settings_fail, key_is_missing, factors_refused, said_is}
use Rattle.report_engines.proofs.report_inputs.said_from.Goals as goal

pub returns-in_err-settings-clause-read : goal.returns-in_err-settings-clause-read
returns-in_err-settings-clause-read g c =
    let p = err_from_is_err_and c.from_residual.result c.from_residual.ensures.1 in
    rw (p.1, p.2) (settings_fail c.args.is_sloped (g.S.Read.remaining c.args.settings.now) c.in_err-settings.field-0.0
    c.in_err-settings.ensures.read)

pub returns-in_err-columns-clause-read : goal.returns-in_err-columns-clause-read
returns-in_err-columns-clause-read g c =
    let p = err_from_is_err_and c.from_residual-in_err-columns.result c.from_residual-in_err-columns.ensures.1 in
    rw (p.1, p.2) (key_is_missing c.args.is_sloped (g.S.Read.remaining c.args.settings.now) c.in_ok-settings.settings
    c.in_err-columns.field-0.0 c.in_ok-settings.ensures.read c.in_err-columns.ensures.columns)

pub returns-in_err-factors-clause-read : goal.returns-in_err-factors-clause-read
returns-in_err-factors-clause-read g c =
    let p = err_from_is_err_and c.from_residual-in_err-factors.result c.from_residual-in_err-factors.ensures.1 in
    rw (p.1, p.2) (factors_refused c.args.is_sloped (g.S.Read.remaining c.args.settings.now) c.in_ok-settings.settings
    c.in_err-factors.field-0.0 c.in_ok-columns.ensures.columns.1 c.in_err-factors.ensures.fault)

pub returns-clause-read : goal.returns-clause-read
returns-clause-read g c =
    said_is c.args.is_sloped (g.S.Read.remaining c.args.settings.now) c.in_ok-settings.settings
    c.in_ok-columns.columns c.in_ok-factors.factors.items c.factor_of-factor.result c.in_ok-settings.ensures.read
    c.in_ok-columns.ensures.columns.1
    c.in_ok-columns.ensures.columns.0 c.in_ok-factors.ensures.factors.0 c.factor_of-factor.ensures
