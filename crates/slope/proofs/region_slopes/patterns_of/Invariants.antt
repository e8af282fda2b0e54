use Rattle.fixed_worth.proofs.Common.{take, map, ℤ}
use Rattle.std.specs.Global.{Vec}
use Rattle.slope.specs.Gathering.{AreOfListed}
use Rattle.slope.proofs.region_slopes.patterns_of.Given as goal

abbrev pub invariant-loop-offsets : goal.invariant-loop-offsets
invariant-loop-offsets l = AreOfListed (take l.offsets-index (map (λ (w : Vec (ℤ × ℤ × ℤ)). w.items) l.listed))
    l.patterns.items
