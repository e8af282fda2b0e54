use Rattle.std.proofs.Common.{length}
use Rattle.upit_file.proofs.PartProgress.{PartSoFar}
use Rattle.upit_file.proofs.part_reading.read_part.Given as goal

abbrev pub invariant-loop-next : goal.invariant-loop-next
invariant-loop-next l = PartSoFar l.n l.from l.text l.values.items l.lines

abbrev pub decreases-loop-next : goal.decreases-loop-next
decreases-loop-next l = length l.lines.lines
