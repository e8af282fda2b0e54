use Rattle.fixed_worth.proofs.Common.{◌≡◌, ◌<◌, ℤ, [], All, map, length, get_or, sym, subst, ◌∙◌, arith, rules}
use Rattle.fixed_worth.proofs.Common.{length-map}
use Rattle.std.specs.Global.{Vec}
use Rattle.slope_offsets.specs.Prelude.{IsUpward}
use Rattle.slope.specs.Prelude.{IsAllUpward}
use Rattle.slope.proofs.Regions.{list_at, below_more}
use Rattle.slope.proofs.region_slopes.first_sideways.Goals as goal

pub loop-region-preserved : goal.loop-region-preserved
loop-region-preserved c =
    let vs = c.args.listed.now in
    let k = c.loop-region.region in
    let inside : k < length vs = search (rules, c.loop-region-test.true) in
    let none = rw c.in_default.is at c.first_not_upward.ensures in
    let item : (get_or vs k c.index-listed-region.result).items ≡ c.deref.result.now = search
    (rules, c.index-listed-region.is, c.deref.ensures.value) in
    below_more (IsAllUpward (map (λ (w : Vec (ℤ × ℤ × ℤ)). w.items) vs)) k c.loop-region.invariant
    (subst (All IsUpward) (sym (list_at vs k c.index-listed-region.result inside ∙ item)) none)

pub returns : goal.returns
returns c = λ r l. c.loop-region.invariant r
    (omega (arith, l, c.loop-region-test.false, length-map c.args.listed.now (λ (w : Vec (ℤ × ℤ × ℤ)). w.items)))
