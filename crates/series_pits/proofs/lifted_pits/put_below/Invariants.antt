use Rattle.std.proofs.Common.{ℕ, Bool}
use Rattle.series_pits.specs.Parting.{AreJoined}
use Rattle.series_pits.proofs.lifted_pits.put_below.Given as goal

abbrev pub invariant-loop-k : goal.invariant-loop-k
invariant-loop-k l = (e : ℕ → Bool) → AreJoined e l.blocks l.from l.initial.found.items
    → AreJoined e l.blocks l.k l.found.items
