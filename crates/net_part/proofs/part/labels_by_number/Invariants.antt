use Rattle.std.proofs.Common.{◌≡◌}
use Rattle.net_part.proofs.part.labels_by_number.Given as goal

abbrev pub invariant-loop-k : goal.invariant-loop-k
invariant-loop-k l = record {
  same : l.found ≡ l.count;
}
