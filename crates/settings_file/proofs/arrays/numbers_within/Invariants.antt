use Rattle.fixed_worth.proofs.Common.{◌≡◌, ◌≤◌, drop, All}
use Rattle.toml.specs.View.{items_view}
use Rattle.toml_values.specs.Prelude.{whole_value_within}
use Rattle.settings_file.specs.Values.{all_read}
use Rattle.settings_file.proofs.ReadArrays.{after}
use Rattle.settings_file.proofs.arrays.numbers_within.Given as goal

abbrev pub invariant-loop-value : goal.invariant-loop-value
invariant-loop-value l =
    (all_read (whole_value_within l.most) (items_view l.values.items) ≡ after l.numbers.items
    (all_read (whole_value_within l.most) (items_view (drop l.value-index l.values.items)))) ×
    All (λ n. n ≤ l.most) l.numbers.items
