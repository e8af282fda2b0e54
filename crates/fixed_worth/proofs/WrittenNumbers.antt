-- A number that is written in decimal is read back.
use Rattle.fixed_worth.proofs.Common.{◌≡◌, ℕ, suc, ◌+◌, ◌/◌, ◌%◌, ◌^◌, ◌<◌, ◌≤◌, Bool, true, false, not, eqb, List, []}
use Rattle.fixed_worth.proofs.Common.{◌∷◌, ◌++◌, length, Ok, refl, ap, arith, map, is_ok, All, result_unwrap_or}
use Rattle.fixed_worth.proofs.Common.{list_all, decimal, and_from, decimal_by_steps_wide, length-decimal-le}
use Rattle.fixed_worth.proofs.Common.{common_steps}
use Rattle.fixed_worth.specs.Prelude.{is_digit, value_of, whole_of, is_remark, reads, number_of, is_separator}
use Rattle.fixed_worth.proofs.Digits.{value_of-append}
use Rattle.fixed_worth.proofs.Joined.{all_pass_weaker, is_word, is_one_line}

-- The text is digits, at least one, of this value.
record IsWritten (n : ℕ) (text : List ℕ) : Type 0 where
  some : 0 < length text
  digits : list_all is_digit text ≡ true
  value : value_of text ≡ n

written_one : (n : ℕ) → n < 10 → IsWritten n ((48 + n) ∷ [])
written_one n h = record {
  some = omega arith;
  digits = and_from (is_digit (48 + n)) true (grind arith) refl;
  value =
      omega arith;
}

written_more : (n : ℕ) (text : List ℕ) → 10 ≤ n → IsWritten (n / 10) text → IsWritten n (text ++ ((48 + n % 10) ∷ []))
written_more n text h w = grind (arith, common_steps, value_of-append)

written : (n : ℕ) → n < 10 ^ 64 → IsWritten n (decimal n)
written = decimal_by_steps_wide IsWritten written_one written_more

-- it is digits of this value
pub decimal_digits : (n : ℕ) → n < 10 ^ 64 → list_all is_digit (decimal n) ≡ true
decimal_digits n h = (written n h).digits

pub value_of-decimal : (n : ℕ) → n < 10 ^ 64 → value_of (decimal n) ≡ n
value_of-decimal n h = (written n h).value

-- it is read as the number
pub whole_of-decimal : (n : ℕ) → n < 2 ^ 64 → whole_of (decimal n) ≡ Ok n
unfolding whole_of
whole_of-decimal n h =
    let few : length (decimal n) ≤ 20 = length-decimal-le 20 n (omega arith) (omega arith) h in
    grind (arith, common_steps, written, length-decimal-le)

-- a digit is no separator, and no line feed
pub digit_separates_not : (b : ℕ) → is_digit b ≡ true → not (is_separator b) ≡ true
unfolding is_separator
digit_separates_not b h = grind (arith, common_steps)

pub digit_is_one_line : (b : ℕ) → is_digit b ≡ true → not (eqb b 10) ≡ true
digit_is_one_line b h = grind (arith, common_steps)

-- it is one word
pub decimal_is_word : (n : ℕ) → n < 2 ^ 64 → is_word (decimal n) ≡ true
decimal_is_word n h = grind (arith, common_steps, written, all_pass_weaker, digit_separates_not)

-- it has no line feed
pub decimal_is_one_line : (n : ℕ) → n < 2 ^ 64 → is_one_line (decimal n) ≡ true
decimal_is_one_line n h = all_pass_weaker is_digit (λ b. not (eqb b 10)) digit_is_one_line (decimal n)
    (decimal_digits n (omega arith))

no_remark : (text : List ℕ) → list_all is_digit text ≡ true → is_remark text ≡ false
no_remark text h = grind (arith, common_steps)

-- it begins no remark
pub decimal_is_no_remark : (n : ℕ) → n < 2 ^ 64 → is_remark (decimal n) ≡ false
decimal_is_no_remark n h = no_remark (decimal n) (decimal_digits n (omega arith))

-- ---- numbers in a row

-- it reads, and gives the number
pub decimal_reads : (n : ℕ) → n < 2 ^ 64 → reads (decimal n) ≡ true
decimal_reads n h = ap is_ok (whole_of-decimal n h)

pub number_of-decimal : (n : ℕ) → n < 2 ^ 64 → number_of (decimal n) ≡ n
number_of-decimal n h = ap (λ r. result_unwrap_or r 0) (whole_of-decimal n h)

-- what each written number passes, all pass
pub decimals_pass : (test : List ℕ → Bool) → ((n : ℕ) → n < 2 ^ 64 → test (decimal n) ≡ true)
    → (ns : List ℕ) → All (λ n. n < 2 ^ 64) ns → list_all test (map decimal ns) ≡ true
decimals_pass test each [] h = refl
decimals_pass test each (n ∷ ns) h =
    and_from (test (decimal n)) (list_all test (map decimal ns)) (each n (h 0 0 (omega arith)))
    (decimals_pass test each ns (λ k d l. h (suc k) d (omega arith)))

-- they are read as the same numbers
pub numbers_of-decimals : (ns : List ℕ) → All (λ n. n < 2 ^ 64) ns → map number_of (map decimal ns) ≡ ns
numbers_of-decimals [] h = refl
numbers_of-decimals (n ∷ ns) h = rw
    (number_of-decimal n (h 0 0 (omega arith)), numbers_of-decimals ns (λ k d l. h (suc k) d (omega arith))) refl
