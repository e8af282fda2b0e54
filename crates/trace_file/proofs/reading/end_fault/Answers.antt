use Rattle.std.proofs.Common.{sym, ◌∙◌}
use Rattle.trace_file.proofs.Parts.{some_after}
use Rattle.trace_file.proofs.reading.end_fault.Goals as goal

pub returns-else-is_empty : goal.returns-else-is_empty
returns-else-is_empty c = some_after c.args.number c.args.past.now (sym c.is_empty.ensures ∙ c.if-is_empty.false)
