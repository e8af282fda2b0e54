use Rattle.fixed_worth.proofs.Searched.{first_place}
use Rattle.fixed_worth.proofs.line_reader.first_line_feed.Goals as goal

pub returns : goal.returns
returns c = first_place 10 c.args.text.now c.memchr.result c.memchr.ensures
