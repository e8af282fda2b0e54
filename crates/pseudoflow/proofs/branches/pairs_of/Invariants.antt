use Rattle.std.proofs.Common.{All}
use Rattle.prec_file.specs.Rests.{IsKnown}
use Rattle.pseudoflow.proofs.branches.pairs_of.Given as goal

abbrev pub invariant-loop-place : goal.invariant-loop-place
invariant-loop-place l = record {
  known : All (IsKnown l.n) l.pairs.items;
}
