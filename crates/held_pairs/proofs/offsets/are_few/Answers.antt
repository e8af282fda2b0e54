use Rattle.fixed_worth.proofs.Common.{◌<◌, ◌≤◌, ℤ, map, length, get_or, ap, arith, rules, length-map}
use Rattle.std.specs.Global.{Vec}
use Rattle.slope_offsets.specs.declared.pattern.TheConstants.{MOST_OFFSETS}
use Rattle.slope.specs.Prelude.{HasFew}
use Rattle.slope.proofs.Regions.{list_at, below_more}
use Rattle.held_pairs.proofs.offsets.are_few.Goals as goal

pub loop-offsets-preserved : goal.loop-offsets-preserved
loop-offsets-preserved c =
    let vs = c.args.listed.now in
    let k = c.loop-offsets.offsets-index in
    let inside : k < length vs = c.loop-offsets-test.true in
    let few : length (get_or vs k c.offsets-item.result).items ≤ MOST_OFFSETS = search
    (rules, c.offsets-item.is, c.len.ensures, c.if-len-gt-MOST_OFFSETS.false) in
    below_more (HasFew (map (λ (w : Vec (ℤ × ℤ × ℤ)). w.items) vs)) k c.loop-offsets.invariant
    (omega (arith, few, ap length (list_at vs k c.offsets-item.result inside)))

pub returns : goal.returns
returns c = λ t r l. c.loop-offsets.invariant r
    (omega (
      arith,
      l,
      c.loop-offsets-test.false,
      c.loop-offsets.auto.offsets-index-end,
      length-map c.args.listed.now
          (λ (w : Vec (ℤ × ℤ × ℤ)). w.items),
    ))
