use Rattle.std.proofs.Common.{sym, ◌∙◌}
use Rattle.trace_file.proofs.Steps.{no_head}
use Rattle.trace_file.proofs.reading.after_head.Goals as goal

pub returns-else-eq : goal.returns-else-eq
returns-else-eq c = no_head c.args.text.now c.in-Some.line.now c.in-Some.past.now c.in-Some.ensures
    (sym c.eq.ensures ∙ c.if-eq.false)
