use Rattle.std.proofs.Common.{◌≡◌}
use Rattle.toml.specs.View.{table_view}
use Rattle.toml_values.specs.Prelude.{all_named}
use Rattle.settings_file.specs.Prelude.{is_way_key}
use Rattle.toml_values.proofs.Names.{names_pass}
use Rattle.settings_file.proofs.ways.has_way_keys.Given as goal

abbrev pub invariant-loop-name : goal.invariant-loop-name
invariant-loop-name l =
    (goal.iterator-loop-name).can_next l.name-iterator ×
    (goal.iterator-loop-name).is_finite l.name-iterator ×
    (all_named is_way_key (table_view l.table) ≡ names_pass is_way_key l.name-iterator)
