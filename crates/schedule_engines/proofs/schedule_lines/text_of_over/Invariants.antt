use Rattle.fixed_worth.proofs.Common.{◌≡◌, take, string_bytes}
use Rattle.schedule_engines.specs.ScheduleLines.{over_text}
use Rattle.schedule_engines.proofs.schedule_lines.text_of_over.Given as goal

abbrev pub invariant-loop-i : goal.invariant-loop-i
invariant-loop-i l = string_bytes l.text ≡ over_text (take l.i l.overs)
