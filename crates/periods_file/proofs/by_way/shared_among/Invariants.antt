use Rattle.std.proofs.Common.{◌≡◌, drop}
use Rattle.toml.specs.View.{items_view}
use Rattle.periods_file.specs.Prelude.{all_rows, shared_row}
use Rattle.periods_file.proofs.ReadRows.{after}
use Rattle.periods_file.proofs.by_way.shared_among.Given as goal

abbrev pub invariant-loop-value : goal.invariant-loop-value
invariant-loop-value l = all_rows (shared_row) (items_view l.values.items) ≡ after l.shared.items
    (all_rows (shared_row) (items_view (drop l.value-index l.values.items)))
