use Rattle.std.proofs.Common.{◌≡◌, drop}
use Rattle.toml.specs.View.{items_view}
use Rattle.periods_file.specs.Prelude.{all_rows, number_row}
use Rattle.periods_file.proofs.ReadRows.{after}
use Rattle.periods_file.proofs.arrays.columns_among.Given as goal

abbrev pub invariant-loop-value : goal.invariant-loop-value
invariant-loop-value l = all_rows (number_row 65535) (items_view l.values.items) ≡ after l.columns.items
    (all_rows (number_row 65535) (items_view (drop l.value-index l.values.items)))
