use Rattle.fixed_worth.proofs.LineLaws.{lines_are}
use Rattle.fixed_worth.proofs.laws.lines_make_the_text.Goals as goal

pub returns : goal.returns
returns c = lines_are c.args.text.now
