use Rattle.std.proofs.Common.{rules}
use Rattle.toml.specs.View.{table_view}
use Rattle.toml_values.specs.Prelude.{IsDocument}
use Rattle.settings_file.proofs.Known.{table_is_text}
use Rattle.settings_file.proofs.reading.read_settings.Goals as goal

pub returns-in-Ok : goal.returns-in-Ok
returns-in-Ok c =
    let document : IsDocument c.args.bytes.now (table_view c.in-Ok.table) = search rules in
    table_is_text c.args.bytes.now (table_view c.in-Ok.table) c.settings_of.result document
    c.settings_of.ensures.value c.settings_of.ensures.kind
