-- What the pieces of a printed amount are together.
use Rattle.fixed_worth.proofs.Common.{◌≡◌, ℕ, ◌-◌, ◌^◌, ◌<◌, false, List, [], ◌∷◌, ◌++◌, length, replicate, refl, arith}
use Rattle.fixed_worth.proofs.Common.{format_spec, styled_decimal, padded_integral, char_count, common_steps}
use Rattle.fixed_worth.specs.Printed.{fixed_width, without_trailing_zeros, fraction_text}

-- under `0` a number is printed with zeros before it
pub zeros_before : (w : ℕ) (ds : List ℕ) → padded_integral (format_spec 32 0 4 w (2 ^ 64 - 1)) false [] ds ≡ replicate
    (w - length ds) 48 ++ ds
unfolding padded_integral char_count
zeros_before w ds = grind (arith, common_steps)

pub no_fraction : (places n : ℕ) → n ≡ 0 → [] ≡ fraction_text places n
unfolding fraction_text
no_fraction places n e = rw e refl

-- a point, and the digits without trailing zeros
pub point_and_digits : (places n w d : ℕ) → (n ≡ 0 → ⊥)
    → without_trailing_zeros (fixed_width places n) ≡ fixed_width w d → 46 ∷ fixed_width w d ≡ fraction_text places n
unfolding fraction_text
point_and_digits places n w d some same = grind (arith, common_steps)

pub some_fraction : (places n w d : ℕ) → (n ≡ 0 → ⊥) → without_trailing_zeros (fixed_width places n) ≡ fixed_width w d
    → 0 < w
    → 46 ∷ styled_decimal (format_spec 32 0 4 w (2 ^ 64 - 1)) d ≡ fraction_text places n
some_fraction places n w d some same shown = grind (arith, common_steps, zeros_before, point_and_digits)
