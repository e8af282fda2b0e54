use Rattle.fixed_worth.proofs.Common.{◌≡◌, drop, All}
use Rattle.toml.specs.View.{items_view}
use Rattle.settings_file.specs.Values.{all_read, way_of, IsWay}
use Rattle.settings_file.proofs.ReadArrays.{after}
use Rattle.settings_file.proofs.ways.ways_among.Given as goal

abbrev pub invariant-loop-value : goal.invariant-loop-value
invariant-loop-value l =
    (all_read way_of (items_view l.values.items) ≡ after l.ways.items
    (all_read way_of (items_view (drop l.value-index l.values.items)))) ×
    All IsWay l.ways.items
