use Rattle.fixed_worth.proofs.Common.{ℕ, ◌<◌, map, ℤ}
use Rattle.std.specs.Global.{Vec}
use Rattle.slope.specs.Slopes.{IsAllUpward}
use Rattle.held_pairs.proofs.offsets.lead_up.Given as goal

abbrev pub invariant-loop-offsets : goal.invariant-loop-offsets
invariant-loop-offsets l = (s : ℕ) → s < l.offsets-index
    → IsAllUpward (map (λ (w : Vec (ℤ × ℤ × ℤ)). w.items) l.listed) s
