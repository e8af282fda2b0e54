use Rattle.std.proofs.Common.{◌≤◌, ◌^◌}
use Rattle.prec_file.proofs.RowChecks.{RowSoFar}
use Rattle.prec_file.proofs.predecessors_builder.row_rises.Given as goal

abbrev pub invariant-loop-predecessor : goal.invariant-loop-predecessor
invariant-loop-predecessor l = record {
  so_far : RowSoFar l.row l.block l.predecessor-index l.least;
  small : l.least ≤ 2 ^ 32;
}
