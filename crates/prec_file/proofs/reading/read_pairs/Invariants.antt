use Rattle.std.proofs.Common.{◌≡◌, ◌≤◌, length, All, vec_capacity}
use Rattle.fixed_worth.specs.declared.limits.TheConstants.{LINE_BYTES}
use Rattle.prec_file.specs.declared.limits.TheConstants.{MOST_PAIRS}
use Rattle.prec_file.specs.Rests.{IsKnown}
use Rattle.prec_file.proofs.Progress.{ReadSoFar}
use Rattle.prec_file.proofs.reading.read_pairs.Given as goal

abbrev pub invariant-loop-line : goal.invariant-loop-line
invariant-loop-line l = record {
  going : ReadSoFar l.n l.text l.seen.items l.pairs.items l.lines;
  all : length l.seen.items ≡ l.n;
  room : length l.pairs.items ≤ MOST_PAIRS;
  free : LINE_BYTES ≤ vec_capacity l.row;
  known : All (IsKnown l.n) l.pairs.items;
}

abbrev pub decreases-loop-line : goal.decreases-loop-line
decreases-loop-line l = length l.lines.lines
