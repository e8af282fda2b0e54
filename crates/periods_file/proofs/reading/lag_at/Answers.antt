use Rattle.std.proofs.Common.{◌≡◌, ◌∙◌, Some, None, sym, ap, rules}
use Rattle.toml.specs.View.{view}
use Rattle.toml.proofs.Views.{table_get}
use Rattle.periods_file.specs.Prelude.{value_said, or_bad, or_given, lag_of}
use Rattle.periods_file.specs.declared.keys.PeriodKey.TheVariants.{Lag}
use Rattle.periods_file.proofs.reading.lag_at.Goals as goal

pub returns-in-Some-lag_in-clause-value : goal.returns-in-Some-lag_in-clause-value
returns-in-Some-lag_in-clause-value c =
    let found = table_get c.get.result c.name.result.now c.args.table.now.entries c.get.ensures.value in
    let member = rw (c.name.ensures, c.in-Some.is) at found in
    let read : lag_of (view c.in-Some.value.now) ≡ Some c.in-Some-lag_in.lag = search rules in
    ap (or_given 1) (ap (value_said Lag lag_of) (sym member) ∙ ap (or_bad Lag) read)

pub returns-in-None-lag_in-clause-value : goal.returns-in-None-lag_in-clause-value
returns-in-None-lag_in-clause-value c =
    let found = table_get c.get.result c.name.result.now c.args.table.now.entries c.get.ensures.value in
    let member = rw (c.name.ensures, c.in-Some.is) at found in
    let bad : lag_of (view c.in-Some.value.now) ≡ None = search rules in
    ap (or_given 1) (ap (value_said Lag lag_of) (sym member) ∙ ap (or_bad Lag) bad)

pub returns-in-None-clause-value : goal.returns-in-None-clause-value
returns-in-None-clause-value c =
    let found = table_get c.get.result c.name.result.now c.args.table.now.entries c.get.ensures.value in
    let member = rw (c.name.ensures, c.in-None.is) at found in
    ap (or_given 1) (ap (value_said Lag lag_of) (sym member))
