use Rattle.std.proofs.Common.{◌<◌, All}
use Rattle.net_part.proofs.arcs.add_above.Given as goal

abbrev pub invariant-loop-p : goal.invariant-loop-p
invariant-loop-p l = record {
  known : All (λ p. p < l.count) l.above.items;
}
