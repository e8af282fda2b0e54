use Rattle.std.proofs.Common.{length, ap}
use Rattle.std.proofs.lemmas.Result.{err_from_is_err_and}
use Rattle.periods_file.specs.Periods.{periods_view}
use Rattle.schedule_engines.proofs.TextsBeside.{periods_failed, uses_failed, schedule_failed, all_read}
use Rattle.schedule_engines.proofs.plan_read.plan_from.Goals as goal

pub returns-in_err-periods-clause-read : goal.returns-in_err-periods-clause-read
returns-in_err-periods-clause-read g c =
    let b = c.args.beside.now in
    let p = err_from_is_err_and c.from_residual.result c.from_residual.ensures.1 in
    rw (p.1, p.2)
    (periods_failed (g.D.Read.remaining b.periods) (g.D.Read.remaining b.uses) (g.D.Read.remaining b.schedule)
    c.args.n c.args.ways c.in_err-periods.field-0.0 c.in_err-periods.ensures.read)

pub returns-in_err-found-clause-read : goal.returns-in_err-found-clause-read
returns-in_err-found-clause-read g c =
    let b = c.args.beside.now in
    let p = err_from_is_err_and c.from_residual-in_err-found.result c.from_residual-in_err-found.ensures.1 in
    rw (p.1, p.2)
    (uses_failed (g.D.Read.remaining b.periods) (g.D.Read.remaining b.uses) (g.D.Read.remaining b.schedule) c.args.n
    c.args.ways (periods_view c.in_ok-periods.periods) c.in_ok-periods.ensures.read c.in_err-found.field-0.0
    c.in_err-found.ensures.read)

pub returns-in_err-entries-clause-read : goal.returns-in_err-entries-clause-read
returns-in_err-entries-clause-read g c =
    let b = c.args.beside.now in
    let p = err_from_is_err_and c.from_residual-in_err-entries.result c.from_residual-in_err-entries.ensures.1 in
    rw (p.1, p.2)
    (schedule_failed (g.D.Read.remaining b.periods) (g.D.Read.remaining b.uses) (g.D.Read.remaining b.schedule)
    c.args.n c.args.ways (periods_view c.in_ok-periods.periods) c.in_ok-periods.ensures.read
    c.in_err-entries.field-0.0 (length c.as_slice.result.now) (ap length c.as_slice.ensures.value)
    c.in_err-entries.ensures.read)

pub returns-clause-read : goal.returns-clause-read
returns-clause-read g c =
    let b = c.args.beside.now in
    all_read (g.D.Read.remaining b.periods) (g.D.Read.remaining b.uses) (g.D.Read.remaining b.schedule) c.args.n
    c.args.ways (periods_view c.in_ok-periods.periods) c.in_ok-periods.ensures.read
    c.in_ok-found.found.amounts.items c.in_ok-entries.entries.items c.in_ok-found.found.waits
    (length c.as_slice.result.now) (ap length c.as_slice.ensures.value) c.in_ok-found.ensures.read
    c.in_ok-entries.ensures.read
