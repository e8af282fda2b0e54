-- Amounts in a power of ten of a unit, as they are printed.
use Rattle.std.specs.Prelude.{ℕ, ℤ, ◌-◌, ◌/◌, ◌%◌, ◌^◌, ◌==◌, cond, List, [], ◌∷◌, ◌++◌, length, replicate}
use Rattle.std.specs.Prelude.{unsigned_abs}
use Rattle.std.specs.Fmt.{decimal, sign_text}
use Rattle.std.specs.Int.{is_negative}

-- the digits of a number, with zeros before them up to the width
abbrev pub fixed_width : ℕ → ℕ → List ℕ
fixed_width width n = replicate (width - length (decimal n)) 48 ++ decimal n

-- a digit before others; a 0 before none is left out
abbrev pub digit_before : ℕ → List ℕ → List ℕ
digit_before d [] = cond (d == 48) [] (d ∷ [])
digit_before d (e ∷ es) = d ∷ e ∷ es

-- digits without the zeros (48) at their end
abbrev pub without_trailing_zeros : List ℕ → List ℕ
without_trailing_zeros [] = []
without_trailing_zeros (d ∷ ds) = digit_before d (without_trailing_zeros ds)

-- nothing for 0, and else a point (46) and the digits of the fraction without trailing zeros
unfoldable pub fraction_text : ℕ → ℕ → List ℕ
fraction_text places n = cond (n == 0) [] (46 ∷ without_trailing_zeros (fixed_width places n))

-- an amount of which 10 ^ places make one: an optional minus, the whole part, and the fraction
unfoldable pub amount_text : ℕ → ℤ → List ℕ
amount_text places z = sign_text (is_negative z)
    ++ (decimal (unsigned_abs z / 10 ^ places) ++ fraction_text places (unsigned_abs z % 10 ^ places))
