use Rattle.std.proofs.Common.{◌<◌, All}
use Rattle.net_part.proofs.arcs.Arcs.of.Given as goal

abbrev pub invariant-loop-block : goal.invariant-loop-block
invariant-loop-block l = record {
  known : All (λ p. p < l.count) l.above.items;
}
