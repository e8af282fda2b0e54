use Rattle.std.proofs.Common.{below_more}
use Rattle.check_pit.proofs.checking.first_over.Goals as goal

pub loop-b-preserved : goal.loop-b-preserved
loop-b-preserved g c = below_more _ _ c.loop-b.invariant (c.keeps_within.ensures.0 c.if-not-keeps_within.false)
