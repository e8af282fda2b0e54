use Rattle.fixed_worth.proofs.Common.{arith}
use Rattle.places.specs.Prelude.{pairs_below}
use Rattle.design_value.specs.Prelude.{marked_in}
use Rattle.design_value.proofs.Leading.{few_lead}
use Rattle.design_value.proofs.BlockPairs.{below_grows}
use Rattle.design_value.proofs.open_pairs.open_among.Goals as goal

pub pass_block-requires-clause-few : goal.pass_block-requires-clause-few
pass_block-requires-clause-few g c =
    let v = g.P.Precedence.shown c.args.held.now in
    let led = few_lead (marked_in c.args.marks.now) (pairs_below v.rests v.blocks c.loop-b.b) c.loop-b.leading.count
    c.loop-b.leading.first.items c.loop-b.invariant in
    let most = below_grows v.rests v.blocks c.loop-b.b v.blocks
    (omega (arith, c.loop-b-test.true, c.len-b-end.ensures.is)) in
    omega (arith, led, most, c.requires.few)
