use Rattle.fixed_worth.proofs.Common.{◌≡◌, drop, map, ℤ}
use Rattle.std.specs.Global.{Vec}
use Rattle.toml.specs.View.{items_view}
use Rattle.settings_file.specs.Values.{all_read, offsets_of}
use Rattle.settings_file.proofs.ReadArrays.{after}
use Rattle.settings_file.proofs.arrays.slopes_among.Given as goal

abbrev pub invariant-loop-value : goal.invariant-loop-value
invariant-loop-value l = all_read offsets_of (items_view l.values.items) ≡ after
    (map (λ (w : Vec (ℤ × ℤ × ℤ)). w.items) l.slopes.items)
    (all_read offsets_of (items_view (drop l.value-index l.values.items)))
