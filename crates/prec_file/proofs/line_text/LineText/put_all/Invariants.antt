use Rattle.std.proofs.Common.{◌≡◌, ◌+◌, ◌*◌, ◌≤◌, ◌++◌, drop, length}
use Rattle.prec_file.specs.Written.{spaced_numbers}
use Rattle.prec_file.proofs.line_text.LineText.put_all.Given as goal

abbrev pub invariant-loop-left : goal.invariant-loop-left
invariant-loop-left l = (l.self ≡ spaced_numbers (drop l.left l.numbers) ++ l.initial.self)
    × (l.left ≤ length l.numbers)
    × (length l.self + 11 * l.left ≤ length l.initial.self + 11 * length l.numbers)

abbrev pub decreases-loop-left : goal.decreases-loop-left
decreases-loop-left l = l.left
