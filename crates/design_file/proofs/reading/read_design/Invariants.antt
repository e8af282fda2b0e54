use Rattle.std.proofs.Common.{◌≡◌, length}
use Rattle.design_file.proofs.Progress.{ReadSoFar}
use Rattle.design_file.proofs.reading.read_design.Given as goal

abbrev pub invariant-loop-line : goal.invariant-loop-line
invariant-loop-line l = record {
  going : ReadSoFar l.n l.text l.marks.items l.is_open l.lines;
  all : length l.marks.items ≡ l.n;
}

abbrev pub decreases-loop-line : goal.decreases-loop-line
decreases-loop-line l = length l.lines.lines
