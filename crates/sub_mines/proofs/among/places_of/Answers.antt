use Rattle.std.proofs.Common.{arith}
use Rattle.sub_mines.proofs.Rows.{place_below}
use Rattle.sub_mines.proofs.among.places_of.Goals as goal

pub overflow_cast-i : goal.overflow_cast-i
overflow_cast-i c =
    let low = place_below c.args.kept.now c.requires.ascending c.loop-i.i c.loop-i-test.true in
    let below = c.requires.below c.loop-i.i 0 c.loop-i-test.true in
    omega (arith, low, below, c.ranges.n.fits)

pub overflow_add-i : goal.overflow_add-i
overflow_add-i c =
    let low = place_below c.args.kept.now c.requires.ascending c.loop-i.i c.loop-i-test.true in
    let below = c.requires.below c.loop-i.i 0 c.loop-i-test.true in
    omega (arith, low, below, c.ranges.n.fits)
