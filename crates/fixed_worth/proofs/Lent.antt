-- A vector whose whole slice was lent.
use Rattle.fixed_worth.proofs.Common.{◌≡◌, ℕ, List, ◌++◌, length, take, drop, arith, common_steps}

-- It has what the slice has when that comes back.
pub written_back : {A : Type 0} (new old : List A) (len : ℕ) → length new ≡ length old → len ≡ length old
    → take len (new ++ drop (length new) old) ≡ new
written_back new old len e f = grind (arith, common_steps)
