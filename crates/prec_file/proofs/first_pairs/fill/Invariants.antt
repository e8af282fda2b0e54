use Rattle.std.proofs.Common.{◌≡◌, ℕ, ◌-◌, ◌<◌, ◌≤◌, length, slice_index, vec_capacity}
use Rattle.prec_file.proofs.first_pairs.fill.Given as goal

abbrev pub invariant-loop-list : goal.invariant-loop-list
invariant-loop-list l = record {
  before : length l.initial.list.items ≤ length l.list.items;
  size : length l.list.items ≤ l.size;
  space : vec_capacity l.list ≡ vec_capacity l.initial.list;
  kept : (i : ℕ) → i < length l.initial.list.items → slice_index l.list.items i ≡ slice_index l.initial.list.items i;
  filled : (i : ℕ) → length l.initial.list.items ≤ i → i < length l.list.items → slice_index l.list.items i ≡ l.number;
}

abbrev pub decreases-loop-list : goal.decreases-loop-list
decreases-loop-list l = l.size - length l.list.items
