use Rattle.fixed_worth.proofs.PlainNumbers.{printed_is_plain}
use Rattle.fixed_worth.proofs.laws.printed_numbers_are_plain.Goals as goal

pub returns : goal.returns
returns c = printed_is_plain c.args.number c.ranges.number
