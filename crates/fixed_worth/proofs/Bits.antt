-- What truth values come to.
use Rattle.fixed_worth.proofs.Common.{◌≡◌, Bool, true, false, not, arith, common_steps}

pub not_true : (t : Bool) → not t ≡ true → t ≡ false
not_true t e = grind (arith, common_steps)

pub not_false : (t : Bool) → not t ≡ false → t ≡ true
not_false t e = grind (arith, common_steps)
