use Rattle.fixed_worth.proofs.Common.{◌≡◌, ◌∷◌, ◌∙◌, [], Some, None, List, refl, rules, err_from_is_err_and}
use Rattle.settings_file.specs.Settings.{first_missing}
use Rattle.settings_file.specs.declared.keys.Key.{Key}
use Rattle.settings_file.specs.declared.keys.Key.TheVariants.{Mining}
use Rattle.settings_file.proofs.MissingKeys.{first_missing-append, first_missing-front}
use Rattle.mine_inputs.proofs.columns_of_prices.mining_column.Goals as goal

abbrev charges : List Key
charges = Mining ∷ []

pub returns-in_err-need-clause-columns : goal.returns-in_err-need-clause-columns
returns-in_err-need-clause-columns c =
    let p = err_from_is_err_and c.from_residual.result c.from_residual.ensures.1 in
    let m = c.in_err-need.ensures.keys in
    rw (p.1, p.2) (m.0, m.1, first_missing-front c.args.settings.now c.args.others.now charges m.0 m.2)

pub returns-in_default-clause-columns : goal.returns-in_default-clause-columns
returns-in_default-clause-columns c =
    let nothing : c.args.settings.now.mining ≡ None = search (rules, c.mining.ensures.value, c.in_default.not-Some) in
    let first : first_missing charges c.args.settings.now ≡ Some Mining = rw nothing refl in (
      Mining,
      c.missing.ensures,
      first_missing-append c.args.settings.now c.args.others.now charges
          c.in_ok-need.ensures.keys ∙ first,
    )

pub returns-clause-columns : goal.returns-clause-columns
returns-clause-columns c =
    let mined : c.args.settings.now.mining ≡ Some c.in-Some.mining = search
    (rules, c.in-Some.ensures.value, c.in-Some.is) in
    let all : first_missing charges c.args.settings.now ≡ None = rw mined refl in
    (rw mined refl, first_missing-append c.args.settings.now c.args.others.now charges c.in_ok-need.ensures.keys ∙ all)
