use Rattle.std.proofs.Common.{◌≡◌, ◌∙◌, Some, None, sym, ap, rules}
use Rattle.toml.specs.View.{view}
use Rattle.toml.proofs.Views.{table_get}
use Rattle.settings_file.specs.Prelude.{optional_said, optional_or_bad, factors_of}
use Rattle.settings_file.specs.declared.keys.Key.TheVariants.{Factors}
use Rattle.settings_file.proofs.reading.factors_at.Goals as goal

pub returns-in-Ok-Some-clause-value : goal.returns-in-Ok-Some-clause-value
returns-in-Ok-Some-clause-value c =
    let found = table_get c.get.result c.name.result.now c.args.table.now.entries c.get.ensures.value in
    let member = rw (c.name.ensures, c.in-Some.is) at found in
    let read : factors_of (view c.in-Some.value.now) ≡ Some c.in-Ok-Some.factors.items = search
    (rules, c.in-Ok-Some.ensures.value, c.in-Ok-Some.field-0-is) in
    ap (optional_said Factors factors_of) (sym member) ∙ ap (optional_or_bad Factors) read

pub returns-in-Ok-None-clause-value : goal.returns-in-Ok-None-clause-value
returns-in-Ok-None-clause-value c = λ other.
    let found = table_get c.get.result c.name.result.now c.args.table.now.entries c.get.ensures.value in
    let member = rw (c.name.ensures, c.in-Some.is) at found in
    let bad : factors_of (view c.in-Some.value.now) ≡ None = search
    (rules, c.in-Ok-None.ensures.value, c.in-Ok-None.field-0-is) in
    ap (optional_said Factors factors_of) (sym member) ∙ ap (optional_or_bad Factors) bad

pub returns-in-None-clause-value : goal.returns-in-None-clause-value
returns-in-None-clause-value c =
    let found = table_get c.get.result c.name.result.now c.args.table.now.entries c.get.ensures.value in
    let member = rw (c.name.ensures, c.in-None.is) at found in
    ap (optional_said Factors factors_of) (sym member)
