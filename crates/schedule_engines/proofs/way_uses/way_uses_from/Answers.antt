use Rattle.std.proofs.lemmas.Result.{err_from_is_err_and}
use Rattle.periods_file.specs.Periods.{periods_view}
use Rattle.schedule_engines.proofs.WayUsesRead.{text_unread}
use Rattle.schedule_engines.proofs.way_uses.way_uses_from.Goals as goal

pub returns-in_err-text-clause-read : goal.returns-in_err-text-clause-read
returns-in_err-text-clause-read g c =
    let p = err_from_is_err_and c.from_residual.result c.from_residual.ensures.1 in
    rw (p.1, p.2) (text_unread c.args.n c.args.ways (periods_view c.args.periods.now)
    (g.D.Read.remaining c.args.from.now) c.in_err-text.field-0.0 c.too_long.result c.too_long.ensures
    c.in_err-text.ensures.read)
