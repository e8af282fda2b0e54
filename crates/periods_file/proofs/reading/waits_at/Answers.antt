use Rattle.std.proofs.Common.{◌≡◌, ◌∙◌, Some, None, [], sym, ap, rules}
use Rattle.toml.specs.View.{view}
use Rattle.toml.proofs.Views.{table_get}
use Rattle.periods_file.specs.Prelude.{value_said, or_bad, or_given, columns_of}
use Rattle.periods_file.specs.declared.keys.PeriodKey.TheVariants.{Waits}
use Rattle.periods_file.proofs.reading.waits_at.Goals as goal

pub returns-in-Ok-Some-clause-value : goal.returns-in-Ok-Some-clause-value
returns-in-Ok-Some-clause-value c =
    let found = table_get c.get.result c.name.result.now c.args.table.now.entries c.get.ensures.value in
    let member = rw (c.name.ensures, c.in-Some.is) at found in
    let read : columns_of (view c.in-Some.value.now) ≡ Some c.in-Ok-Some.waits.items = search
    (rules, c.in-Ok-Some.ensures.value, c.in-Ok-Some.field-0-is) in
    ap (or_given []) (ap (value_said Waits columns_of) (sym member) ∙ ap (or_bad Waits) read)

pub returns-in-Ok-None-clause-value : goal.returns-in-Ok-None-clause-value
returns-in-Ok-None-clause-value c = λ other.
    let found = table_get c.get.result c.name.result.now c.args.table.now.entries c.get.ensures.value in
    let member = rw (c.name.ensures, c.in-Some.is) at found in
    let bad : columns_of (view c.in-Some.value.now) ≡ None = search
    (rules, c.in-Ok-None.ensures.value, c.in-Ok-None.field-0-is) in
    ap (or_given []) (ap (value_said Waits columns_of) (sym member) ∙ ap (or_bad Waits) bad)

pub returns-in-None-clause-value : goal.returns-in-None-clause-value
returns-in-None-clause-value c =
    let found = table_get c.get.result c.name.result.now c.args.table.now.entries c.get.ensures.value in
    let member = rw (c.name.ensures, c.in-None.is) at found in
    ap (or_given []) (ap (value_said Waits columns_of) (sym member)) ∙ search rules
