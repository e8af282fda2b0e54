use Rattle.machine_law.proofs.Conserved.{runs_conserve}
use Rattle.machine_law.proofs.laws.nothing_is_lost.Goals as goal

pub returns : goal.returns
returns c = runs_conserve
