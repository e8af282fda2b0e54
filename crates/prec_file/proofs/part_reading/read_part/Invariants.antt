use Rattle.std.proofs.Common.{◌≡◌, ◌≤◌, length, vec_capacity}
use Rattle.fixed_worth.specs.declared.limits.TheConstants.{LINE_BYTES}
use Rattle.prec_file.specs.declared.limits.TheConstants.{MOST_PAIRS}
use Rattle.prec_file.proofs.PartProgress.{PartSoFar}
use Rattle.prec_file.proofs.part_reading.read_part.Given as goal

abbrev pub invariant-loop-line : goal.invariant-loop-line
invariant-loop-line l = record {
  going : PartSoFar l.n l.from l.text l.to.rows l.to.listed l.lines;
  blocks : l.to.rows.blocks ≡ l.n;
  few : l.to.listed ≤ MOST_PAIRS;
  kept : length l.to.rows.pairs ≤ l.to.listed;
  room : LINE_BYTES ≤ vec_capacity l.to.row;
}

abbrev pub decreases-loop-line : goal.decreases-loop-line
decreases-loop-line l = length l.lines.lines
