use Rattle.fixed_worth.proofs.Common.{◌≡◌, take, string_bytes}
use Rattle.schedule_engines.specs.ScheduleLines.{pairs_text}
use Rattle.schedule_engines.proofs.schedule_lines.text_of_pairs.Given as goal

abbrev pub invariant-loop-i : goal.invariant-loop-i
invariant-loop-i l = string_bytes l.text ≡ pairs_text l.word (take l.i l.pairs)
