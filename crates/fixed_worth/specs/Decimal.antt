-- Numerals with a point and an exponent, in millionths.
use Rattle.std.specs.Prelude.{ℕ, ℤ, ◌+◌, ◌^◌, ◌==◌, ◌||◌, ◌&&◌, Bool, not, cond, List, [], ◌∷◌, ◌++◌, length, nat_lt}
use Rattle.std.specs.Prelude.{nat_le, Option, Some, None, Result, Ok, Err, ◌*◌, ◌/◌}
use Rattle.std.specs.Result.{result_ok}
use Rattle.std.specs.List.{list_all, before_first, after_first, position_or_len}
use Rattle.fixed_worth.specs.declared.numerals.NumberFault.{NumberFault}
use Rattle.fixed_worth.specs.declared.numerals.NumberFault.TheVariants.{NotANumber, TooLong, TooLarge}
use Rattle.fixed_worth.specs.Numeral.{is_digit, is_number, value_of, is_minus, unsigned_of, with_sign}
use Rattle.fixed_worth.specs.Text.{WordRun}

-- m * 10 ^ up / 10 ^ down to the nearest whole number, and up from the middle
unfoldable pub rounded_of : ℕ → ℕ → ℕ → ℕ
rounded_of m up down = (2 * (m * 10 ^ up) + 10 ^ down) / (2 * 10 ^ down)

-- the mark of an exponent: e or E
unfoldable pub is_mark : ℕ → Bool
is_mark b = (b == 101) || (b == 69)

-- a decimal point, which is byte 46
unfoldable pub is_point : ℕ → Bool
is_point b = b == 46

-- What stands before the mark, or all where there is no mark, without its sign.
abbrev pub mantissa_of : List ℕ → List ℕ
mantissa_of text = unsigned_of (before_first is_mark text)

-- What stands before the point of the mantissa; all of it where it has no point.
unfoldable pub whole_part : List ℕ → List ℕ
whole_part text = before_first is_point (mantissa_of text)

-- What stands after the point of the mantissa; nothing where it has no point.
unfoldable pub fraction_part : List ℕ → List ℕ
fraction_part text = after_first is_point (mantissa_of text)

-- What stands after the mark, with its sign; nothing where there is no mark.
unfoldable pub exponent_of : List ℕ → List ℕ
exponent_of text = after_first is_mark text

-- There is a mark in the text, and so an exponent is wanted after it.
unfoldable pub has_mark : List ℕ → Bool
has_mark text = nat_lt (position_or_len is_mark text) (length text)

-- The mantissa without its point: the whole part and the fraction together.
abbrev pub digits_in : List ℕ → List ℕ
digits_in text = whole_part text ++ fraction_part text

-- What stands after the mark, without its sign.
abbrev pub exponent_digits : List ℕ → List ℕ
exponent_digits text = unsigned_of (exponent_of text)

-- Digits, at least one; and after a mark digits, at least one.
abbrev pub is_decimal : List ℕ → Bool
is_decimal text = is_number (digits_in text) && (not (has_mark text) || nat_lt 0 (length (exponent_digits text))) &&
    list_all is_digit (exponent_digits text)

-- More than 36 digits in the mantissa, or an exponent of more than 40 up or down.
abbrev pub is_too_long : List ℕ → Bool
is_too_long text = nat_lt 36 (length (digits_in text)) || nat_lt 40 (value_of (exponent_digits text))

-- The value in millionths, without the sign: to the nearest, and away from zero from the middle.
abbrev pub millionths_of : List ℕ → ℕ
millionths_of text = rounded_of (value_of (digits_in text))
    (cond (is_minus (exponent_of text)) 6 (6 + value_of (exponent_digits text)))
    (cond (is_minus (exponent_of text)) (length (fraction_part text) + value_of (exponent_digits text))
    (length (fraction_part text)))

-- The number where it is at most the limit, and else TooLarge.
abbrev pub most : ℕ → ℕ → Result ℕ NumberFault
most limit n = cond (nat_le n limit) (Ok n) (Err TooLarge)

-- The value of a numeral in millionths, from -10 ^ 18 to 10 ^ 18 of them, or what is wrong with the numeral.
abbrev pub decimal_of : List ℕ → Result ℤ NumberFault
decimal_of text = cond (not (is_decimal text)) (Err NotANumber)
    (cond (is_too_long text) (Err TooLong) (with_sign (is_minus text) (most (10 ^ 18) (millionths_of text))))

-- The value that the first of the fields is, or why it is none, where there is a field.
abbrev pub first_decimal : List WordRun → Option (Result ℤ NumberFault)
first_decimal [] = None
first_decimal (field ∷ fields) = Some (decimal_of field.text)

-- The value that a field is, in millionths, if it is one.
abbrev pub value_read : List ℕ → Option ℤ
value_read field = result_ok (decimal_of field)
