use Rattle.fixed_worth.proofs.Common.{pos, [], get_or}
use Rattle.mine_inputs.proofs.Priced.{one_more}
use Rattle.mine_inputs.proofs.priced_inputs.column_of.Goals as goal

pub loop-b-preserved : goal.loop-b-preserved
loop-b-preserved c =
    one_more (λ b. get_or (get_or c.args.model.now.columns c.args.i []) b (pos 0)) c.loop-b.b c.loop-b.values.items _
    _ c.loop-b.invariant c.in_ok-push.ensures.items c.column.ensures
