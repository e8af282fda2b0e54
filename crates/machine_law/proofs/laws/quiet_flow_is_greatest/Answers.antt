use Rattle.machine_law.proofs.Quiet.{quiet_solves}
use Rattle.machine_law.proofs.laws.quiet_flow_is_greatest.Goals as goal

pub returns : goal.returns
returns c = quiet_solves
