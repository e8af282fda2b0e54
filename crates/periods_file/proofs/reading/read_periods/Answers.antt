use Rattle.std.proofs.Common.{rules}
use Rattle.toml.specs.View.{table_view}
use Rattle.toml_values.specs.Prelude.{IsDocument}
use Rattle.periods_file.proofs.Known.{table_is_text}
use Rattle.periods_file.proofs.reading.read_periods.Goals as goal

pub returns-in-Ok-clause-read : goal.returns-in-Ok-clause-read
returns-in-Ok-clause-read c =
    let document : IsDocument c.args.bytes.now (table_view c.in-Ok.table) = search rules in
    table_is_text c.args.ways c.args.bytes.now (table_view c.in-Ok.table) c.periods_of.result document
    c.periods_of.ensures.value c.periods_of.ensures.kind
