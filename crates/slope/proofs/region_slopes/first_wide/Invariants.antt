use Rattle.fixed_worth.proofs.Common.{ℕ, ◌<◌, map, ℤ}
use Rattle.std.specs.Global.{Vec}
use Rattle.slope.specs.Slopes.{HasFew}
use Rattle.slope.proofs.region_slopes.first_wide.Given as goal

abbrev pub invariant-loop-region : goal.invariant-loop-region
invariant-loop-region l = (s : ℕ) → s < l.region → HasFew (map (λ (w : Vec (ℤ × ℤ × ℤ)). w.items) l.listed) s
