use Rattle.fixed_worth.proofs.Common.{◌≡◌, ℕ, ◌+◌, ◌-◌, ◌/◌, ◌%◌, ◌<◌, ◌≤◌, ◌^◌, List, [], ◌∷◌, ◌++◌, length, drop, set}
use Rattle.fixed_worth.proofs.Common.{arith, decimal, decimal_step_wide, decimal_digit, decimal_by_steps_wide}
use Rattle.fixed_worth.proofs.Common.{length-append, common_steps}

-- The bytes from start on are what stands after the digits of what is left.
pub record AreWritten (n left start : ℕ) (bytes : List ℕ) : Type 0 where
  pub whole : decimal n ≡ decimal left ++ drop start bytes
  pub room : length (decimal left) ≤ start
  pub small : left < 10 ^ 39
  pub within : start ≤ 39
  pub size : length bytes ≡ 39

-- a number has a digit
some_digit : (n : ℕ) → n < 10 ^ 64 → 0 < length (decimal n)
some_digit =
    decimal_by_steps_wide (λ n ds. 0 < length ds) (λ n h. omega arith)
    (λ n ds h k. omega (arith, k, length-append ds ((48 + n % 10) ∷ [])))

pub starts_above : (n left start : ℕ) (bytes : List ℕ) → AreWritten n left start bytes → 1 ≤ start
starts_above n left start bytes a = omega (arith, some_digit left (omega (arith, a.small)))

pub written_before : (n left start : ℕ) (bytes : List ℕ) → AreWritten n left start bytes → 10 ≤ left
    → AreWritten n (left / 10) (start - 1) (set bytes (start - 1) (48 + left % 10))
written_before n left start bytes a h = grind (arith, common_steps, decimal_step_wide)

pub all_written : (n left start : ℕ) (bytes : List ℕ) → AreWritten n left start bytes → left < 10
    → drop (start - 1) (set bytes (start - 1) (48 + left)) ≡ decimal n
all_written n left start bytes a h = grind (arith, common_steps, decimal_digit)
