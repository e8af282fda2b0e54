use Rattle.std.proofs.Common.{sym, refl, arith}
use Rattle.closure_net.specs.Network.{holds_of}
use Rattle.check_pit.proofs.Lacks.{holds_above, lacking}
use Rattle.check_pit.proofs.closing.first_lacking.Goals as goal

pub returns-then-not-holds_near : goal.returns-then-not-holds_near
returns-then-not-holds_near c = lacking c.args.rests.now.pairs (holds_of c.args.pit.now) c.args.b
    c.above-above.result.now c.above-above.ensures c.loop-p.p-index _ (omega arith) refl
    (sym c.if-not-holds_near.ensures.is) c.loop-p.invariant

pub returns : goal.returns
returns c = holds_above c.args.rests.now.pairs (holds_of c.args.pit.now) c.args.b c.above-above.result.now
    c.above-above.ensures c.loop-p.p-index (omega arith) c.loop-p.invariant
