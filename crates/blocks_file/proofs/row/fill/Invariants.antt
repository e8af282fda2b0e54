use Rattle.fixed_worth.proofs.Common.{◌≡◌, ◌≢◌, ℕ, ◌<◌, length, pos, slice_index_or}
use Rattle.blocks_file.proofs.row.fill.Given as goal

abbrev pub invariant-loop-i : goal.invariant-loop-i
invariant-loop-i l = record {
  size : length l.row ≡ length l.fn.row;
  here : (j : ℕ) → j < l.i → slice_index_or l.columns j 0 ≡ l.column → slice_index_or l.row j (pos 0) ≡ l.value;
  others : (j : ℕ) → slice_index_or l.columns j 0 ≢ l.column
      → slice_index_or l.row j (pos 0) ≡ slice_index_or l.fn.row j (pos 0);
}
