use Rattle.fixed_worth.proofs.Common.{◌≡◌, length, vec_len, vec_capacity}
use Rattle.net_part.proofs.units.Scale.large_units.Given as goal

abbrev pub invariant-loop-worth : goal.invariant-loop-worth
invariant-loop-worth l = record {
  made : vec_len l.units ≡ l.worth-index;
  room : vec_capacity l.units ≡ length l.worths;
}
