use Rattle.fixed_worth.proofs.Parts.{cut, not_cut}
use Rattle.fixed_worth.proofs.cutting.cut_at.Goals as goal

pub returns-in-Some : goal.returns-in-Some
returns-in-Some c = cut c.args.byte c.in-Some.end c.args.text.now c.split_at.result.0.now c.split_at.result.1.now
    c.after_first_line.result.now c.in-Some.ensures c.split_at.ensures.front c.split_at.ensures.back
    c.after_first_line.ensures

pub returns-in-None : goal.returns-in-None
returns-in-None c = not_cut c.args.byte c.args.text.now c.in-None.ensures
