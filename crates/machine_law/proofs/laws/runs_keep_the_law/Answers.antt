use Rattle.machine_law.proofs.Law.{runs_keep_law}
use Rattle.machine_law.proofs.laws.runs_keep_the_law.Goals as goal

pub returns : goal.returns
returns c = runs_keep_law
