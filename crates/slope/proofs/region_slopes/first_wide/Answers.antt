use Rattle.fixed_worth.proofs.Common.{◌<◌, ◌≤◌, ℤ, [], map, length, get_or, ap, arith, rules}
use Rattle.std.specs.Global.{Vec}
use Rattle.slope_offsets.specs.declared.pattern.TheConstants.{MOST_OFFSETS}
use Rattle.slope.specs.Prelude.{HasFew}
use Rattle.slope.proofs.Regions.{list_at, below_more}
use Rattle.slope.proofs.region_slopes.first_wide.Goals as goal

pub loop-region-preserved : goal.loop-region-preserved
loop-region-preserved c =
    let vs = c.args.listed.now in
    let k = c.loop-region.region in
    let inside : k < length vs = search (rules, c.loop-region-test.true) in
    let few : length (get_or vs k c.index-listed-region.result).items ≤ MOST_OFFSETS = search
    (rules, c.index-listed-region.is, c.len.ensures, c.if-len-gt-MOST_OFFSETS.false) in
    below_more (HasFew (map (λ (w : Vec (ℤ × ℤ × ℤ)). w.items) vs)) k c.loop-region.invariant
    (omega (arith, few, ap length (list_at vs k c.index-listed-region.result inside)))
