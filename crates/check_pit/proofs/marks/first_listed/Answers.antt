use Rattle.fixed_worth.proofs.Common.{false, get_or, refl, arith, common_steps}
use Rattle.closure_net.proofs.Spreads.{above_known}
use Rattle.check_pit.proofs.Lacks.{holds_above, lacking}
use Rattle.check_pit.proofs.marks.first_listed.Goals as goal

pub bounds-marks-p : goal.bounds-marks-p
bounds-marks-p c = grind (arith, common_steps, above_known)

pub returns-then-not-marks-p : goal.returns-then-not-marks-p
returns-then-not-marks-p c = lacking c.args.list.now.pairs (λ q. get_or c.args.marks.now q false) c.args.b
    c.above-above.result.now c.above-above.ensures c.loop-p.p-index _ (omega arith) refl c.if-not-marks-p.true
    c.loop-p.invariant

pub returns : goal.returns
returns c = holds_above c.args.list.now.pairs (λ q. get_or c.args.marks.now q false) c.args.b c.above-above.result.now
    c.above-above.ensures c.loop-p.p-index (omega arith) c.loop-p.invariant
