use Rattle.std.proofs.Common.{◌≡◌, ℕ, ◌-◌, ◌^◌, List, length}
use Rattle.certificate_file.specs.declared.body_lines.BodyLine.{BodyLine}
use Rattle.check_pit.proofs.StreamReadings.{Reading}
use Rattle.check_pit.proofs.StreamRooms.{Summed}
use Rattle.check_pit.proofs.stream_checking.check_lines.Given as goal

abbrev pub invariant-loop-line : goal.invariant-loop-line
invariant-loop-line g l = record {
  so_far : (bytes : List ℕ) × (ls : List BodyLine)
      × Reading g.R.Read.remaining g.G.OrderedGroup.counts l.net l.fn.lines l.lines l.previous bytes ls
      × Summed l.net l.previous l.room ls;
  kept : g.R.CountedRead.failed l.lines.from ≡ g.R.CountedRead.failed l.fn.lines.from;
  size : length l.room.balances ≡ length l.fn.room.balances;
}

abbrev pub decreases-loop-line : goal.decreases-loop-line
decreases-loop-line g l = 2 ^ 63 - l.lines.number
