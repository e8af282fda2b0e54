use Rattle.fixed_worth.proofs.Common.{length, ap, arith}
use Rattle.mine_inputs.proofs.Priced.{beside_size}
use Rattle.mine_inputs.proofs.priced_inputs.priced_blocks_from.Goals as goal

pub blocks_from-requires-clause-few : goal.blocks_from-requires-clause-few
blocks_from-requires-clause-few g c =
    let shown = ap length c.as_slice.ensures.value in
    let chosen = ap length c.in_ok-chosen.ensures in
    omega (arith, shown, chosen, beside_size c.args.columns.now c.args.others.now, c.are_few.ensures, c.requires.few)
