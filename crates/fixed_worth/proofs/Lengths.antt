-- How long a printed amount is.
use Rattle.fixed_worth.proofs.Common.{ℕ, suc, ◌+◌, ◌/◌, ◌^◌, ◌<◌, ◌≤◌, eqb, List, [], ◌∷◌, length, replicate, ℤ, arith}
use Rattle.fixed_worth.proofs.Common.{length-append, lit<, unsigned_abs, length-replicate, length-decimal-le_wide}
use Rattle.fixed_worth.proofs.Common.{common_steps}
use Rattle.fixed_worth.specs.Printed.{digit_before, without_trailing_zeros, fraction_text, amount_text}
use Rattle.fixed_worth.proofs.Powers.{rest_below}

before_short : (d : ℕ) (ds : List ℕ) (n : ℕ) → length ds ≤ n → length (digit_before d ds) ≤ suc n
before_short d ds n h = grind (arith, common_steps)

trimmed_short : (ds : List ℕ) → length (without_trailing_zeros ds) ≤ length ds
trimmed_short [] = omega arith
trimmed_short (d ∷ ds) = before_short d (without_trailing_zeros ds) (length ds) (trimmed_short ds)

fraction_short : (places n : ℕ) → 0 < places → places ≤ 38 → n < 10 ^ places → n < 10 ^ 64
    → length (fraction_text places n) ≤ 1 + places
unfolding fraction_text
fraction_short places n some few h s = grind
    (arith, common_steps, trimmed_short, eqb, length-decimal-le_wide, replicate, length-replicate)

pub printed_short : (places whole : ℕ) (z : ℤ) → 0 < places → places ≤ 38 → 0 < whole
    → unsigned_abs z / 10 ^ places < 10 ^ whole → unsigned_abs z < 10 ^ 64
    → length (amount_text places z) ≤ 2 + whole + places
unfolding amount_text
printed_short places whole z some few w h s = grind
    (arith, common_steps, lit<, rest_below, length-decimal-le_wide, fraction_short, length-append)

-- An amount of at most 10 ^ 18 millionths has at most 21.
pub printed_micros_short : (z : ℤ) → unsigned_abs z ≤ 10 ^ 18 → length (amount_text 6 z) ≤ 21
printed_micros_short z l = printed_short 6 13 z (omega arith) (omega arith) (omega arith) (omega arith) (omega arith)
