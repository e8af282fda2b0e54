use Rattle.std.proofs.Common.{◌≤◌, length, vec_capacity}
use Rattle.fixed_worth.specs.declared.limits.TheConstants.{LINE_BYTES}
use Rattle.prec_file.proofs.RisingProgress.{RisingSoFar}
use Rattle.prec_file.proofs.rising.read_rising.Given as goal

abbrev pub invariant-loop-line : goal.invariant-loop-line
invariant-loop-line l = record {
  going : RisingSoFar l.n l.text l.to.rows l.to.listed l.lines;
  room : LINE_BYTES ≤ vec_capacity l.to.row;
}

abbrev pub decreases-loop-line : goal.decreases-loop-line
decreases-loop-line l = length l.lines.lines
