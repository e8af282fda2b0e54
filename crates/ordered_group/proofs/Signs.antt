-- The sign of an amount, and the order of two by the sign of their difference.
use Rattle.std.proofs.Common.{arith, ◌⊎◌}
use Rattle.std.proofs.lemmas.Int.{ints}
use Rattle.ordered_group.specs.Amount.{Amount, zero_amount, plus, minus, AtMost, Below, positive, negative}
use Rattle.ordered_group.proofs.Order.{larger_amount-right, most_or_below}

-- not below zero
abbrev pub NonNeg : Amount → Type 0
NonNeg x = AtMost zero_amount x

pub NonNeg-zero : NonNeg zero_amount
NonNeg-zero = record { worths = omega (arith, ints); counts = λ e. omega (arith, ints) }

pub NonNeg-plus : (x y : Amount) → NonNeg x → NonNeg y → NonNeg (plus x y)
NonNeg-plus x y h k = record { worths = omega (arith, ints, h, k); counts = λ e. omega (arith, ints, h, k, e) }

-- more, and less, by an amount that is not negative
pub AtMost-plus : (x d : Amount) → NonNeg d → AtMost x (plus x d)
AtMost-plus x d h = record { worths = omega (arith, ints, h); counts = λ e. omega (arith, ints, h, e) }

pub AtMost-minus : (x d : Amount) → NonNeg d → AtMost (minus x d) x
AtMost-minus x d h = record { worths = omega (arith, ints, h); counts = λ e. omega (arith, ints, h, e) }

-- an amount is at most zero, or positive
pub sign_or : (x : Amount) → AtMost x zero_amount ⊎ Below zero_amount x
sign_or x = most_or_below x zero_amount

-- neither part is negative
pub NonNeg-positive : (x : Amount) → NonNeg (positive x)
NonNeg-positive x = larger_amount-right x zero_amount

pub NonNeg-negative : (x : Amount) → NonNeg (negative x)
NonNeg-negative x = larger_amount-right (minus zero_amount x) zero_amount
