use Rattle.fixed_worth.proofs.Common.{arith, common_steps}
use Rattle.fixed_worth.proofs.Digits.{short_value}
use Rattle.fixed_worth.proofs.decimals.magnitude.Goals as goal

pub returns-in_err-m : goal.returns-in_err-m
returns-in_err-m c = grind (arith, common_steps, short_value)

pub rounded-requires : goal.rounded-requires
rounded-requires c = grind (arith, common_steps, short_value)
