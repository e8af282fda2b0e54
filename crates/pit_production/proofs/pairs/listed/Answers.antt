use Rattle.fixed_worth.proofs.Common.{◌≡◌, ℕ, ◌<◌, length, get_or, arith, ext_get_or}
use Rattle.pit_production.proofs.pairs.listed.Goals as goal

pub returns : goal.returns
returns c =
    let size : length c.loop-i.pairs.items ≡ length c.args.rests.now.pairs = omega arith in
    let each : (k : ℕ) → k < length c.loop-i.pairs.items
    → get_or c.loop-i.pairs.items k (0, 0) ≡ get_or c.args.rests.now.pairs k (0, 0) = λ k l. c.loop-i.invariant.1
    k (omega (arith, l)) in
    ext_get_or (0, 0) c.loop-i.pairs.items c.args.rests.now.pairs size each
