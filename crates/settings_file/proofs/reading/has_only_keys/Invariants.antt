use Rattle.std.proofs.Common.{◌≡◌}
use Rattle.toml.specs.View.{table_view}
use Rattle.settings_file.specs.Keys.{is_settings_key, all_settings_keys}
use Rattle.toml_values.proofs.Names.{names_pass}
use Rattle.settings_file.proofs.reading.has_only_keys.Given as goal

abbrev pub invariant-loop-name : goal.invariant-loop-name
invariant-loop-name l =
    (goal.iterator-loop-name).can_next l.name-iterator ×
    (goal.iterator-loop-name).is_finite l.name-iterator ×
    (all_settings_keys (table_view l.table) ≡ names_pass is_settings_key l.name-iterator)
