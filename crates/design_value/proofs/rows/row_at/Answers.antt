use Rattle.design_value.proofs.BlockPairs.{same_row}
use Rattle.design_value.proofs.rows.row_at.Goals as goal

pub returns : goal.returns
returns g c =
    same_row (g.P.Precedence.shown c.args.held.now) c.len-blocks.ensures.all c.args.b c.requires
    c.in_ok-pairs.pairs.items c.in_order.result.items c.in_ok-pairs.ensures c.in_order.ensures.held
    c.in_order.ensures.only c.in_order.ensures.rising
