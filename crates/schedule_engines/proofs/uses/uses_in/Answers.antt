use Rattle.std.proofs.Common.{rules, ◌≡◌}
use Rattle.std.proofs.lemmas.Result.{err_from_is_err_and}
use Rattle.schedule_engines.proofs.UsesRead.{waits_wrong}
use Rattle.schedule_engines.proofs.uses.uses_in.Goals as goal

pub returns-in_err-waits-clause-are : goal.returns-in_err-waits-clause-are
returns-in_err-waits-clause-are c =
    let same : c.args.model.now.blocks ≡ c.args.n = search rules in
    let p = err_from_is_err_and c.from_residual-in_err-waits.result c.from_residual-in_err-waits.ensures.1 in
    rw (p.1, p.2)
    (waits_wrong c.args.model.now c.args.resources c.args.waits c.args.n c.in_ok-amounts.amounts.items
    c.in_err-waits.field-0.0 same c.in_ok-amounts.ensures.are c.in_err-waits.ensures.are)
