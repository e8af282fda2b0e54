use Rattle.check_pit.proofs.LineFlows.{sums_tell}
use Rattle.check_pit.proofs.laws.line_sums_tell_flow.Goals as goal

pub returns : goal.returns
returns c = sums_tell
