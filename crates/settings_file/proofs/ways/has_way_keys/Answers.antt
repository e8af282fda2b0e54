use Rattle.std.proofs.Common.{◌∙◌, sym, ap}
use Rattle.settings_file.specs.Values.{is_way_key}
use Rattle.toml_values.proofs.Names.{names_pass, names_pass-table}
use Rattle.settings_file.proofs.ways.has_way_keys.Goals as goal

pub loop-name-init : goal.loop-name-init
loop-name-init c = (
  tt,
  tt,
  sym (names_pass-table is_way_key c.args.table.now.entries)
      ∙ ap (names_pass is_way_key) (sym c.keys-name-items.ensures.rest
      ∙ sym c.into_iter-name-iterator.ensures.into_iter_gives),
)
