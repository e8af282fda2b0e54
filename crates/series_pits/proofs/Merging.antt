-- Lists of blocks that grow by one block, and what is held by them.
use Rattle.fixed_worth.proofs.Common.{ℕ, ◌+◌, ◌<◌, All, Bool, List, [], ◌∷◌, ◌++◌, length, take, get_or, arith}
use Rattle.fixed_worth.proofs.Common.{common_steps}
use Rattle.closure_net.specs.Network.{holds_of}
use Rattle.series_pits.specs.Parting.{AreJoined}

-- a block more of the list
pub put_second : (e : ℕ → Bool) (blocks : List ℕ) (k : ℕ) (found : List ℕ) → k < length blocks
    → AreJoined e blocks k found → AreJoined e blocks (k + 1) (found ++ get_or blocks k 0 ∷ [])
put_second e blocks k found l h = grind (arith, common_steps)

-- a block more of the set
pub put_first : (first second : List ℕ) (i k : ℕ) (found : List ℕ) → i < length first
    → AreJoined (holds_of (take i first)) second k found
    → AreJoined (holds_of (take (i + 1) first)) second k (found ++ get_or first i 0 ∷ [])
put_first first second i k found l h = grind (arith, common_steps)

pub all_nothing : {T : Type 0} (P : T → Type 0) → All P []
all_nothing P j d l = absurd (omega (arith, l))
