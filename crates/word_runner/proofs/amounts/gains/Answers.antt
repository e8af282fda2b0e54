use Rattle.std.proofs.Common.{rules}
use Rattle.word_runner.proofs.Gains.{too_much, too_much_at, all_gains}
use Rattle.word_runner.proofs.amounts.gains.Goals as goal

pub returns-in_default : goal.returns-in_default
returns-in_default c = too_much_at c.args.net.now c.loop-b.b (search rules) c.positive.result c.positive.ensures
    c.in_default.ensures

pub returns-then-units-sum : goal.returns-then-units-sum
returns-then-units-sum c = too_much c.args.net.now c.loop-b.b (search rules) c.loop-b.sum c.in-Some.units
    c.loop-b.invariant.3 (search rules) (search rules)

pub returns : goal.returns
returns c = all_gains c.args.net.now c.loop-b.gain.items c.loop-b.sum c.loop-b.b (search rules) c.loop-b.invariant.1
    c.loop-b.invariant.2 c.loop-b.invariant.3 c.loop-b.invariant.4
