use Rattle.std.proofs.Common.{◌≡◌}
use Rattle.counted_devices.specs.Device.{SentOrHeld}
use Rattle.prec_file.specs.Written.{lines_below}
use Rattle.prec_file.proofs.writing.write_lines.Given as goal

abbrev pub invariant-loop-block : goal.invariant-loop-block
invariant-loop-block g l =
    SentOrHeld (g.W.Write.contents l.initial.out) (g.W.Write.contents l.out) l.page
    (lines_below l.predecessors.pairs l.block)
    × (g.W.CountedWrite.failed l.out ≡ g.W.CountedWrite.failed l.initial.out)
