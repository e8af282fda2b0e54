use Rattle.fixed_worth.proofs.Common.{ℕ, ◌<◌, map, ℤ}
use Rattle.std.specs.Global.{Vec}
use Rattle.slope.specs.Slopes.{HasFew}
use Rattle.held_pairs.proofs.offsets.are_few.Given as goal

abbrev pub invariant-loop-offsets : goal.invariant-loop-offsets
invariant-loop-offsets l = (s : ℕ) → s < l.offsets-index → HasFew (map (λ (w : Vec (ℤ × ℤ × ℤ)). w.items) l.listed) s
