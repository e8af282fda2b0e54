use Rattle.toml.proofs.Views.{table_get}
use Rattle.settings_file.proofs.ways.column_at.Goals as goal

pub returns-in-Some-clause-value : goal.returns-in-Some-clause-value
returns-in-Some-clause-value c =
    let found = table_get c.get.result c.name.result.now c.args.table.now.entries c.get.ensures.value in
    rw (← c.name.ensures, ← rw c.in-Some.is at found, c.number_within.ensures.value)

pub returns-in-None-clause-value : goal.returns-in-None-clause-value
returns-in-None-clause-value c =
    let found = table_get c.get.result c.name.result.now c.args.table.now.entries c.get.ensures.value in
    rw (← c.name.ensures, ← rw c.in-None.is at found)
