use Rattle.fixed_worth.proofs.Common.{ℕ, ◌<◌, map, ℤ}
use Rattle.std.specs.Global.{Vec}
use Rattle.slope.specs.Slopes.{IsListedRegion, region_of}
use Rattle.slope.proofs.region_slopes.first_outside.Given as goal

abbrev pub invariant-loop-block : goal.invariant-loop-block
invariant-loop-block l = (c : ℕ) → c < l.block → IsListedRegion (map (λ (w : Vec (ℤ × ℤ × ℤ)). w.items) l.listed)
    (region_of l.model c)
