use Rattle.std.proofs.Common.{drop}
use Rattle.prec_file.proofs.LineDigits.{ArePut}
use Rattle.prec_file.proofs.line_text.LineText.put_number.Given as goal

abbrev pub invariant-loop-left : goal.invariant-loop-left
invariant-loop-left l = ArePut l.n l.left l.start (drop l.initial.self-inside.start l.initial.self-inside.bytes)
    l.self-inside.bytes

abbrev pub decreases-loop-left : goal.decreases-loop-left
decreases-loop-left l = l.left
