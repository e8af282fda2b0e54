-- Amounts: pairs of whole numbers of any size, their sums and their order.
use Rattle.std.specs.Prelude.{◌≡◌, ℤ, pos, ◌+ℤ◌, ◌-ℤ◌, ◌≤ℤ◌, ◌<ℤ◌, Bool, FitsSigned, Option, MatchOption}
use Rattle.std.specs.declared.cmp.Ordering.{Ordering}
use Rattle.std.specs.declared.cmp.Ordering.TheVariants.{Less, Equal, Greater}
use Rattle.std.specs.Ordering.{ordering_then, int_cmp, is_eq}
use Rattle.std.specs.Int.{w128}

-- a worth with a count of blocks beside it
pub record Amount : Type 0 where
  pub w : ℤ
  pub c : ℤ

-- no worth, and no blocks
abbrev pub zero_amount : Amount
zero_amount = record { w = pos 0; c = pos 0 }

-- the sum, number by number
abbrev pub plus : Amount → Amount → Amount
plus x y = record { w = x.w +ℤ y.w; c = x.c +ℤ y.c }

-- the difference, number by number
abbrev pub minus : Amount → Amount → Amount
minus x y = record { w = x.w -ℤ y.w; c = x.c -ℤ y.c }

-- x is at most y: worths first, and counts where the worths are equal
pub record AtMost (x y : Amount) : Type 0 where
  pub worths : x.w ≤ℤ y.w
  pub counts : x.w ≡ y.w → x.c ≤ℤ y.c

-- x is below y
pub record Below (x y : Amount) : Type 0 where
  pub worths : x.w ≤ℤ y.w
  pub counts : x.w ≡ y.w → x.c <ℤ y.c

-- what comparing two amounts answers: worths first, and then counts
abbrev pub amount_cmp : Amount → Amount → Ordering
amount_cmp x y = ordering_then (int_cmp x.w y.w) (int_cmp x.c y.c)

-- whether the amount is zero
abbrev pub is_zero : Amount → Bool
is_zero x = is_eq (amount_cmp x zero_amount)

-- both numbers fit an i128
abbrev pub FitsPair : Amount → Type 0
FitsPair x = FitsSigned w128 x.w × FitsSigned w128 x.c

-- a is answered where it fits, and otherwise nothing
abbrev pub GivesExactly : {X : Type 0} → (X → Amount) → Amount → Option X → Type 0
GivesExactly parts a o = MatchOption o (¬ (FitsPair a)) (λ x. FitsPair a × (parts x ≡ a))

-- the greater of two by their order, the first where they are equal
abbrev pub larger_of : Ordering → Amount → Amount → Amount
larger_of Less x y = y
larger_of Equal x y = x
larger_of Greater x y = x

-- the greater of two
abbrev pub larger_amount : Amount → Amount → Amount
larger_amount x y = larger_of (amount_cmp x y) x y

-- the lesser of two by their order, the first where they are equal
abbrev pub lesser_of : Ordering → Amount → Amount → Amount
lesser_of Less x y = x
lesser_of Equal x y = x
lesser_of Greater x y = y

-- the lesser of two
abbrev pub lesser_amount : Amount → Amount → Amount
lesser_amount x y = lesser_of (amount_cmp x y) x y

-- x where it is above zero, and else zero
abbrev pub positive : Amount → Amount
positive x = larger_amount x zero_amount

-- the opposite of x where that is above zero, and else zero
abbrev pub negative : Amount → Amount
negative x = larger_amount (minus zero_amount x) zero_amount

-- amounts with equal numbers are equal
pub Amount_eq : (x y : Amount) → x.w ≡ y.w → x.c ≡ y.c → x ≡ y
Amount_eq x y p q = λ i. record { w = p i; c = q i }
