use Rattle.fixed_worth.proofs.Common.{◌≡◌, ℕ, ◌+◌, ◌<◌, ◌≤◌, length, pos, slice_index_or}
use Rattle.blocks_file.proofs.kept.put_row.Given as goal

abbrev pub invariant-loop-i : goal.invariant-loop-i
invariant-loop-i l = record {
  size : length l.values ≡ length l.fn.values;
  here : (j : ℕ) → j < l.i → slice_index_or l.values (l.from + j) (pos 0) ≡ slice_index_or l.row j (pos 0);
  front : (k : ℕ) → k < l.from → slice_index_or l.values k (pos 0) ≡ slice_index_or l.fn.values k (pos 0);
  after : (k : ℕ) → l.from + l.i ≤ k → slice_index_or l.values k (pos 0) ≡ slice_index_or l.fn.values k (pos 0);
}
