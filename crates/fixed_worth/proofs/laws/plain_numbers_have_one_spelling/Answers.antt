use Rattle.fixed_worth.proofs.PlainNumbers.{one_spelling}
use Rattle.fixed_worth.proofs.laws.plain_numbers_have_one_spelling.Goals as goal

pub returns : goal.returns
returns c = one_spelling c.args.text.now
