use Rattle.fixed_worth.proofs.FirstAmounts.{after_point}
use Rattle.fixed_worth.proofs.first_amount.leading_fraction.Goals as goal
use Rattle.fixed_worth.proofs.Common.{common_steps, arith}

pub returns-in-len1-up : goal.returns-in-len1-up
returns-in-len1-up c = grind (arith, common_steps, after_point)
