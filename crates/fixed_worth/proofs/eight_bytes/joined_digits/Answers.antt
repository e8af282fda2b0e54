use Rattle.fixed_worth.proofs.EightBytes.{joined}
use Rattle.fixed_worth.proofs.eight_bytes.joined_digits.Goals as goal

pub returns : goal.returns
returns c = joined c.args.word
