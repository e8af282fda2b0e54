use Rattle.periods_file.specs.Periods.{periods_view}
use Rattle.planned_mine.proofs.TextsFailing.{uses_unread}
use Rattle.planned_mine.proofs.bound_inputs.beside_from.Goals as goal

pub returns-in-Err-way_uses_from-clause-read : goal.returns-in-Err-way_uses_from-clause-read
returns-in-Err-way_uses_from-clause-read g c =
    let b = c.args.beside.now in
    uses_unread (g.D.Read.remaining b.periods) (g.D.Read.remaining b.uses) c.args.n c.args.ways
    (periods_view c.in-Ok.periods) c.in-Ok.ensures.read c.in-Err-way_uses_from.fault
    c.in-Err-way_uses_from.ensures.read
