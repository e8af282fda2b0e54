use Rattle.std.proofs.Common.{◌≡◌, drop}
use Rattle.toml.specs.View.{items_view}
use Rattle.settings_file.specs.Values.{all_read, offset_of}
use Rattle.settings_file.proofs.ReadArrays.{after}
use Rattle.settings_file.proofs.arrays.offsets_among.Given as goal

abbrev pub invariant-loop-value : goal.invariant-loop-value
invariant-loop-value l = all_read offset_of (items_view l.values.items) ≡ after l.offsets.items
    (all_read offset_of (items_view (drop l.value-index l.values.items)))
