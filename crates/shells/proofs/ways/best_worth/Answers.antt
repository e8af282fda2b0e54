use Rattle.fixed_worth.proofs.Common.{◌≡◌, ◌<◌, ◌≤◌, ◌*◌, ◌^◌, ◌∙◌, length, sym, rules, arith, ints, clamps}
use Rattle.fixed_worth.proofs.Common.{unsigned_abs, int_max, w128, to_z-of_z}
use mir.Val.{SFits}
use Rattle.shells.specs.Prices.{worths_by}
use Rattle.shells.proofs.Greatest.{best_more, worths_count, worth_by_way}
use Rattle.shells.proofs.ways.best_worth.Goals as goal

pub loop-i-preserved : goal.loop-i-preserved
loop-i-preserved c =
    let fits : SFits w128 c.max-best.result = search rules in
    let worth_fits : SFits w128 c.worth.result = search rules in
    let same = to_z-of_z w128 c.max-best.result fits in
    let is : c.max-best.result ≡ int_max c.worth.result c.loop-i.best = rw
    (to_z-of_z w128 c.worth.result worth_fits, c.loop-i.best-is) at c.max-best.ensures.value in
    let ws = worths_by c.args.ways.now c.args.thousandths c.args.b in
    let at = worth_by_way c.args.ways.now c.args.thousandths c.args.b c.loop-i.i c.index-ways-i.result
    c.loop-i-test.true (sym c.index-ways-i.is) in
    let l : c.loop-i.i < length ws = omega
    (arith, worths_count c.args.ways.now c.args.thousandths c.args.b, c.loop-i-test.true) in
    record {
      is = same ∙ best_more ws c.loop-i.i c.worth.result c.loop-i.best c.max-best.result l
          (at ∙ sym c.worth.ensures.is) (sym c.loop-i.best-is ∙ c.loop-i.invariant.is) is;
      bound = rw same (let a : unsigned_abs c.loop-i.best ≤ 2 * 10 ^ 22 = rw (sym c.loop-i.best-is)
          c.loop-i.invariant.bound in let b = c.worth.ensures.bound in omega (arith, ints, clamps, is, a, b));
    }
