use Rattle.fixed_worth.proofs.Common.{arith, common_steps}
use Rattle.fixed_worth.proofs.Powers.{ten_more, ten_most}
use Rattle.fixed_worth.proofs.rounding.power_of_ten.Goals as goal

pub overflow_mul-power : goal.overflow_mul-power
overflow_mul-power c = grind (arith, common_steps, ten_more, ten_most)
