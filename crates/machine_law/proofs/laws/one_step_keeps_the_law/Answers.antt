use Rattle.machine_law.proofs.Law.{steps_keep_law}
use Rattle.machine_law.proofs.laws.one_step_keeps_the_law.Goals as goal

pub returns : goal.returns
returns c = steps_keep_law
