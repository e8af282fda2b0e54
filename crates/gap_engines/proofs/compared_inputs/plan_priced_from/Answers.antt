use Rattle.std.proofs.Common.{length, ap}
use Rattle.periods_file.specs.Periods.{periods_view}
use Rattle.schedule_engines.proofs.TextsBeside.{all_read}
use Rattle.gap_engines.proofs.SchedulesFailing.{schedule_unread, unpriced_three, uses_unread_three}
use Rattle.gap_engines.proofs.compared_inputs.plan_priced_from.Goals as goal

pub returns-in-Err-clause-read : goal.returns-in-Err-clause-read
returns-in-Err-clause-read g c =
    let b = c.args.beside.now in
    unpriced_three (g.D.Read.remaining b.periods) (g.D.Read.remaining b.uses) (g.D.Read.remaining b.schedule) c.args.n
    c.args.ways c.in-Err.fault c.in-Err.ensures.read

pub returns-in-Err-way_uses_from-clause-read : goal.returns-in-Err-way_uses_from-clause-read
returns-in-Err-way_uses_from-clause-read g c =
    let b = c.args.beside.now in
    uses_unread_three (g.D.Read.remaining b.periods) (g.D.Read.remaining b.uses) (g.D.Read.remaining b.schedule)
    c.args.n c.args.ways (periods_view c.in-Ok.periods) c.in-Ok.ensures.read c.in-Err-way_uses_from.fault
    c.in-Err-way_uses_from.ensures.read

pub returns-in-Err-entries_from-clause-read : goal.returns-in-Err-entries_from-clause-read
returns-in-Err-entries_from-clause-read g c =
    let b = c.args.beside.now in
    schedule_unread (g.D.Read.remaining b.periods) (g.D.Read.remaining b.uses) (g.D.Read.remaining b.schedule)
    c.args.n c.args.ways (periods_view c.in-Ok.periods) c.in-Ok.ensures.read c.in-Err-entries_from.fault
    (length c.as_slice.result.now) (ap length c.as_slice.ensures.value) c.in-Err-entries_from.ensures.read

pub returns-clause-read : goal.returns-clause-read
returns-clause-read g c =
    let b = c.args.beside.now in
    all_read (g.D.Read.remaining b.periods) (g.D.Read.remaining b.uses) (g.D.Read.remaining b.schedule) c.args.n
    c.args.ways (periods_view c.in-Ok.periods) c.in-Ok.ensures.read c.in-Ok-way_uses_from.found.amounts.items
    c.in-Ok-entries_from.entries.items c.in-Ok-way_uses_from.found.waits
    (length c.as_slice.result.now) (ap length c.as_slice.ensures.value) c.in-Ok-way_uses_from.ensures.read
    c.in-Ok-entries_from.ensures.read
