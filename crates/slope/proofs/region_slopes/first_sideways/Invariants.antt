use Rattle.fixed_worth.proofs.Common.{ℕ, ◌<◌, map, ℤ}
use Rattle.std.specs.Global.{Vec}
use Rattle.slope.specs.Slopes.{IsAllUpward}
use Rattle.slope.proofs.region_slopes.first_sideways.Given as goal

abbrev pub invariant-loop-region : goal.invariant-loop-region
invariant-loop-region l = (s : ℕ) → s < l.region → IsAllUpward (map (λ (w : Vec (ℤ × ℤ × ℤ)). w.items) l.listed) s
