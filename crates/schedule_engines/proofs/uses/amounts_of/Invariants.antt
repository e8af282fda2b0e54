use Rattle.fixed_worth.proofs.Common.{◌≡◌, ℕ, ◌/◌, ◌%◌, ◌<◌, pos, length, slice_index}
use Rattle.schedule_engines.specs.Uses.{use_in}
use Rattle.schedule_engines.proofs.uses.amounts_of.Given as goal

abbrev pub invariant-loop-i : goal.invariant-loop-i
invariant-loop-i l = record {
  size : length l.uses.items ≡ l.i;
  each : (k : ℕ) → k < l.i → pos (slice_index l.uses.items k) ≡ use_in l.model (k / l.n) (k % l.n);
}
