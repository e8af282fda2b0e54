use Rattle.std.proofs.Common.{inr}
use Rattle.solve_engines.proofs.RefusedRuns.{check_overflows}
use Rattle.solve_engines.proofs.solvers.by_machine.Goals as goal

pub returns-in-Err-Refused : goal.returns-in-Err-Refused
returns-in-Err-Refused g c =
    let refused = rw c.in-Err-Refused.field-0-is at c.in-Err-Refused.ensures.answer in
    inr (check_overflows _ _ _ _ _ c.in-Ok.ensures.answer refused)
