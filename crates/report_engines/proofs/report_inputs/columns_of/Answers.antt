use Rattle.fixed_worth.proofs.Common.{◌≡◌, ◌∷◌, [], Some, None, refl, rules, err_from_is_err_and}
use Rattle.settings_file.specs.declared.keys.Key.TheVariants.{Tonnes}
use Rattle.settings_file.specs.Settings.{first_missing}
use Rattle.report_engines.proofs.Readings.{others_known}
use Rattle.report_engines.proofs.report_inputs.columns_of.Goals as goal
use Rattle.check_engines.proofs.Unread.{never}

pub returns-in_err-prices-clause-columns : goal.returns-in_err-prices-clause-columns
returns-in_err-prices-clause-columns c =
    let p = err_from_is_err_and c.from_residual.result c.from_residual.ensures.1 in
    rw (p.1, p.2) c.in_err-prices.ensures.columns

pub unreachable-requires : goal.unreachable-requires
unreachable-requires c =
    let nothing : c.args.settings.now.tonnes ≡ None = search (rules, c.tonnes.ensures.value, c.in_default.not-Some) in
    let first : first_missing (Tonnes ∷ []) c.args.settings.now ≡ Some Tonnes = rw nothing refl in
    never _ Tonnes (others_known c.args.is_sloped c.args.settings.now c.in_ok-prices.ensures.columns.1).0 first
