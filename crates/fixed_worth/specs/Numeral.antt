-- Whole numbers as they are written.
use Rattle.std.specs.Prelude.{ℕ, ℤ, pos, neg_ℤ, ◌+◌, ◌-◌, ◌*◌, ◌^◌, ◌==◌, ◌||◌, ◌&&◌, Bool, false, not, cond, List, []}
use Rattle.std.specs.Prelude.{◌∷◌, length, nat_lt, nat_le, Result, Ok, Err}
use Rattle.std.specs.List.{list_all}
use Rattle.fixed_worth.specs.declared.numerals.NumberFault.{NumberFault}
use Rattle.fixed_worth.specs.declared.numerals.NumberFault.TheVariants.{NotANumber, TooLong, TooLarge}

-- one of the digits 0 to 9, which are the bytes 48 to 57
abbrev pub is_digit : ℕ → Bool
is_digit b = nat_le 48 b && nat_le b 57

-- none of them
abbrev pub is_other : ℕ → Bool
is_other b = not (is_digit b)

-- The value of digits: each counts by the power of ten of the digits after it.
abbrev pub value_of : List ℕ → ℕ
value_of [] = 0
value_of (b ∷ bs) = (b - 48) * 10 ^ length bs + value_of bs

-- digits, and at least one
abbrev pub is_number : List ℕ → Bool
is_number text = nat_lt 0 (length text) && list_all is_digit text

-- digits, or what is wrong with them; more than 39 are too many
abbrev pub digits_of : List ℕ → Result ℕ NumberFault
digits_of text = cond (not (is_number text)) (Err NotANumber)
    (cond (nat_lt 39 (length text)) (Err TooLong) (Ok (value_of text)))

-- the number where it is below the limit, and else TooLarge; a fault stays as it is
abbrev pub below : ℕ → Result ℕ NumberFault → Result ℕ NumberFault
below limit (Ok n) = cond (nat_lt n limit) (Ok n) (Err TooLarge)
below limit (Err e) = Err e

-- the whole number below 2 ^ 64 that digits alone are, or what is wrong with them
unfoldable pub whole_of : List ℕ → Result ℕ NumberFault
whole_of text = below (2 ^ 64) (digits_of text)

-- the text begins with a minus, which is byte 45
abbrev pub is_minus : List ℕ → Bool
is_minus [] = false
is_minus (b ∷ bs) = b == 45

-- the text without the plus (43) or the minus (45) that it may begin with
abbrev pub unsigned_of : List ℕ → List ℕ
unsigned_of [] = []
unsigned_of (b ∷ bs) = cond ((b == 43) || (b == 45)) bs (b ∷ bs)

-- the number, or its opposite where there is a minus; a fault stays as it is
abbrev pub with_sign : Bool → Result ℕ NumberFault → Result ℤ NumberFault
with_sign minus (Ok n) = Ok (cond minus (neg_ℤ (pos n)) (pos n))
with_sign minus (Err e) = Err e

-- an optional sign and digits, for a value from -(2 ^ 127) to 2 ^ 127 - 1
unfoldable pub signed_of : List ℕ → Result ℤ NumberFault
signed_of text = with_sign (is_minus text)
    (below (cond (is_minus text) (2 ^ 127 + 1) (2 ^ 127)) (digits_of (unsigned_of text)))

-- a first digit from 1 to 9
abbrev pub begins_above_zero : List ℕ → Bool
begins_above_zero [] = false
begins_above_zero (b ∷ bs) = nat_lt 48 b && nat_le b 57

-- a 0 alone, or a first digit that is not 0, perhaps after a minus
unfoldable pub is_plain : List ℕ → Bool
is_plain [] = false
is_plain (b ∷ bs) = ((b == 48) && (length bs == 0)) || begins_above_zero (cond (b == 45) bs (b ∷ bs))

-- a number that has one spelling only
unfoldable pub plain_of : List ℕ → Result ℤ NumberFault
plain_of text = cond (is_plain text) (signed_of text) (Err NotANumber)
