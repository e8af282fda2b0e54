use Rattle.std.proofs.Common.{◌≡◌, ◌∙◌, Some, None, sym, ap, rules}
use Rattle.toml.specs.View.{view}
use Rattle.toml.proofs.Views.{table_get}
use Rattle.settings_file.specs.Prelude.{optional_said, optional_or_bad, sign_of}
use Rattle.settings_file.specs.declared.keys.Key.TheVariants.{Up}
use Rattle.settings_file.proofs.values.sign_at.Goals as goal

pub returns-in-Some-sign_in-clause-value : goal.returns-in-Some-sign_in-clause-value
returns-in-Some-sign_in-clause-value c =
    let found = table_get c.get.result c.name.result.now c.args.table.now.entries c.get.ensures.value in
    let member = rw (c.name.ensures, c.in-Some.is) at found in
    let read : sign_of (view c.in-Some.value.now) ≡ Some c.in-Some-sign_in.sign = search
    (rules, c.sign_in.ensures, c.in-Some-sign_in.is) in
    sym (ap (optional_said Up sign_of) (sym member) ∙ ap (optional_or_bad Up) read)

pub returns-in-None-sign_in-clause-value : goal.returns-in-None-sign_in-clause-value
returns-in-None-sign_in-clause-value c =
    let found = table_get c.get.result c.name.result.now c.args.table.now.entries c.get.ensures.value in
    let member = rw (c.name.ensures, c.in-Some.is) at found in
    let bad : sign_of (view c.in-Some.value.now) ≡ None = search (rules, c.sign_in.ensures, c.in-None-sign_in.is) in
    sym (ap (optional_said Up sign_of) (sym member) ∙ ap (optional_or_bad Up) bad)

pub returns-in-None-clause-value : goal.returns-in-None-clause-value
returns-in-None-clause-value c =
    let found = table_get c.get.result c.name.result.now c.args.table.now.entries c.get.ensures.value in
    let member = rw (c.name.ensures, c.in-None.is) at found in
    sym (ap (optional_said Up sign_of) (sym member))
