-- Zeros, and digits without the zeros at their end, are digits.
use Rattle.fixed_worth.proofs.Common.{◌≡◌, ℕ, zero, suc, true, List, [], ◌∷◌, replicate, refl, arith, list_all}
use Rattle.fixed_worth.proofs.Common.{and_parts, common_steps}
use Rattle.fixed_worth.specs.Prelude.{is_digit, without_trailing_zeros}

pub trimmed_digits : (ds : List ℕ) → list_all is_digit ds ≡ true → list_all is_digit (without_trailing_zeros ds) ≡ true
trimmed_digits [] h = refl
trimmed_digits (d ∷ ds) h = grind
    (arith, common_steps, (trimmed_digits ds (and_parts (is_digit d) (list_all is_digit ds) h).1))

pub zeros_digits : (k : ℕ) → list_all is_digit (replicate k 48) ≡ true
zeros_digits zero = refl
zeros_digits (suc k) = zeros_digits k
