use Rattle.fixed_worth.proofs.Common.{unwrap_or, arith, common_steps}
use Rattle.upit_file.proofs.Names.{read_is_upit}
use Rattle.upit_file.proofs.reading.read_values.Goals as goal

pub invariant_of-result : goal.invariant_of-result
invariant_of-result c = grind (arith, common_steps, unwrap_or, read_is_upit)
