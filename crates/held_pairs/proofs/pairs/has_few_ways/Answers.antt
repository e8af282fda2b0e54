use Rattle.fixed_worth.proofs.Common.{◌≡◌, ℕ, ◌≤◌, length, subst, arith}
use Rattle.places.specs.Prelude.{pairs_below}
use Rattle.held_pairs.proofs.FewWays.{few_more}
use Rattle.held_pairs.proofs.pairs.has_few_ways.Goals as goal

pub loop-b-preserved : goal.loop-b-preserved
loop-b-preserved g c =
    let v = g.P.Precedence.shown c.args.held.now in (
      omega (
        arith,
        few_more v c.len-count.ensures.all c.loop-b.b c.loop-b.total c.loop-b.invariant.0,
        c.ways-more.ensures,
      ),
      omega arith,
    )

pub returns : goal.returns
returns g c = λ t.
    let v = g.P.Precedence.shown c.args.held.now in
    let end : c.loop-b.b ≡ v.blocks = omega (arith, c.loop-b-test.false, c.loop-b.auto.b-end, c.len-count.ensures.is) in
    omega (
      arith,
      subst (λ (n : ℕ). length (pairs_below v.rests v.blocks n) ≤ c.loop-b.total) end
          c.loop-b.invariant.0,
      c.loop-b.invariant.1,
    )
