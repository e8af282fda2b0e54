use Rattle.std.proofs.Common.{rules, Some}
use Rattle.schedule_engines.proofs.UsesRead.{uses_answer}
use Rattle.schedule_engines.proofs.uses.uses_in_text.Goals as goal

pub returns-clause-read : goal.returns-clause-read
returns-clause-read c =
    let read = c.in-Ok.ensures.value in
    uses_answer (Some c.args.text.now) c.args.n c.args.resources.now c.args.waits.now c.as_slice.result.now _ _
    c.in-Ok.model c.uses_in.result (search rules) (search rules) (search rules)
    (c.requires.within, read.0, read.1) c.uses_in.ensures.are
