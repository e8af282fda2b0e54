-- Amounts by their two numbers: equations and the order, as linear arithmetic sees them.
use Rattle.fixed_worth.proofs.Common.{◌≡◌, true, false, ap, arith, ints, common_steps}
use Rattle.ordered_group.specs.Amount.{Amount, zero_amount, plus, minus, AtMost, Below, Amount_eq}
use Rattle.machine_law.specs.Reads.{is_positive}

-- the two numbers are the same
pub record Same (x y : Amount) : Type 0 where
  pub w : x.w ≡ y.w
  pub c : x.c ≡ y.c

pub same : {x y : Amount} → x ≡ y → Same x y
same h = record { w = ap (λ a. a.w) h; c = ap (λ a. a.c) h }

pub equal : {x y : Amount} → Same x y → x ≡ y
equal h = Amount_eq _ _ h.w h.c

-- the order, from one that differs by as much
pub shifted : {x y u v : Amount} → AtMost u v → Same (minus y x) (minus v u) → AtMost x y
shifted h e = record { worths = omega (arith, ints, h, e); counts = λ i. omega (arith, ints, h, e, i) }

-- and from two that differ by as much together
pub joined : {x y u v p q : Amount} → AtMost u v → AtMost p q → Same (minus y x) (plus (minus v u) (minus q p))
    → AtMost x y
joined h k e = record { worths = omega (arith, ints, h, k, e); counts = λ i. omega (arith, ints, h, k, e, i) }

-- what is above zero stays so where it grows
pub Below-more : {x y : Amount} → Below zero_amount x → AtMost x y → Below zero_amount y
Below-more h k = record { worths = omega (arith, ints, h, k); counts = λ i. omega (arith, ints, h, k, i) }

pub Below-absurd : {x : Amount} {P : Type 0} → Below zero_amount x → AtMost x zero_amount → P
Below-absurd h k = absurd (omega (arith, ints, h, k))

-- ---- the test of an amount

pub positive-yes : (x : Amount) → is_positive x ≡ true → Below zero_amount x
positive-yes x e = grind (arith, common_steps)

pub positive-no : (x : Amount) → is_positive x ≡ false → AtMost x zero_amount
positive-no x e = grind (arith, common_steps)
