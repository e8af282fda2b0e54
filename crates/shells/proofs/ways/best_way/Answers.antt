use Rattle.fixed_worth.proofs.Common.{rules, w128, to_z-of_z}
use mir.Val.{SFits}
use Rattle.shells.specs.Prices.{worths_by}
use Rattle.shells.proofs.Greatest.{first_best_is}
use Rattle.shells.proofs.ways.best_way.Goals as goal

pub returns-then-best-gt0 : goal.returns-then-best-gt0
returns-then-best-gt0 c =
    let fits : SFits w128 c.best_worth-best.result = search rules in
    let kept = to_z-of_z w128 c.best_worth-best.result fits in
    first_best_is (worths_by c.args.ways.now c.args.thousandths c.args.b) c.best_worth-best.result
    c.first_worth.result c.best_worth-best.ensures.is (rw kept at c.if-best-gt0.true)
    (rw kept at c.first_worth.ensures)
