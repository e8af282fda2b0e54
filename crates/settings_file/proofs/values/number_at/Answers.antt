use Rattle.toml.proofs.Views.{table_get}
use Rattle.settings_file.proofs.values.number_at.Goals as goal

pub returns-in-Some-number_within-clause-value : goal.returns-in-Some-number_within-clause-value
returns-in-Some-number_within-clause-value c =
    let found = table_get c.get.result c.name.result.now c.args.table.now.entries c.get.ensures.value in
    rw (← c.name.ensures, ← rw c.in-Some.is at found, ← c.number_within.ensures.value, c.in-Some-number_within.is)

pub returns-in-None-number_within-clause-value : goal.returns-in-None-number_within-clause-value
returns-in-None-number_within-clause-value c =
    let found = table_get c.get.result c.name.result.now c.args.table.now.entries c.get.ensures.value in
    rw (← c.name.ensures, ← rw c.in-Some.is at found, ← c.number_within.ensures.value, c.in-None-number_within.is)

pub returns-in-None-clause-value : goal.returns-in-None-clause-value
returns-in-None-clause-value c =
    let found = table_get c.get.result c.name.result.now c.args.table.now.entries c.get.ensures.value in
    rw (← c.name.ensures, ← rw c.in-None.is at found)
