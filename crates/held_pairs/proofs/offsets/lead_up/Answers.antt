use Rattle.fixed_worth.proofs.Common.{◌≡◌, ◌<◌, ℤ, All, map, length, get_or, sym, subst, ◌∙◌, arith, rules, length-map}
use Rattle.std.specs.Global.{Vec}
use Rattle.slope_offsets.specs.Prelude.{IsUpward}
use Rattle.slope.specs.Prelude.{IsAllUpward}
use Rattle.slope.proofs.Regions.{list_at, below_more}
use Rattle.held_pairs.proofs.offsets.lead_up.Goals as goal

pub loop-offsets-preserved : goal.loop-offsets-preserved
loop-offsets-preserved c =
    let vs = c.args.listed.now in
    let k = c.loop-offsets.offsets-index in
    let inside : k < length vs = c.loop-offsets-test.true in
    let item : (get_or vs k c.offsets-item.result).items ≡ c.deref.result.now = search
    (rules, c.offsets-item.is, c.deref.ensures.value) in
    let up : All IsUpward c.deref.result.now = c.all_upward.ensures c.if-not-all_upward.false in
    below_more (IsAllUpward (map (λ (w : Vec (ℤ × ℤ × ℤ)). w.items) vs)) k c.loop-offsets.invariant
    (subst (All IsUpward) (sym (list_at vs k c.offsets-item.result inside ∙ item)) up)

pub returns : goal.returns
returns c = λ t r l. c.loop-offsets.invariant r
    (omega (
      arith,
      l,
      c.loop-offsets-test.false,
      c.loop-offsets.auto.offsets-index-end,
      length-map c.args.listed.now
          (λ (w : Vec (ℤ × ℤ × ℤ)). w.items),
    ))
