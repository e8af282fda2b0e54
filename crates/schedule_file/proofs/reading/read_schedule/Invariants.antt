use Rattle.std.proofs.Common.{◌≡◌, length}
use Rattle.schedule_file.proofs.Progress.{ReadSoFar}
use Rattle.schedule_file.proofs.reading.read_schedule.Given as goal

abbrev pub invariant-loop-line : goal.invariant-loop-line
invariant-loop-line l = record {
  going : ReadSoFar l.n l.periods l.ways l.text l.schedule.items l.lines;
  all : length l.schedule.items ≡ l.n;
}

abbrev pub decreases-loop-line : goal.decreases-loop-line
decreases-loop-line l = length l.lines.lines
