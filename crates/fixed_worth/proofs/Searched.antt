-- A search of a byte finds its first place.
use Rattle.fixed_worth.proofs.Common.{◌≡◌, ℕ, ◌==◌, List, Option, None, Some, length, get_or, arith, position}
use Rattle.fixed_worth.proofs.Common.{false_from_ne_true, nat_tests, position_or_len_is, common_steps}
use Rattle.memchr.specs.Find.{IsFirstByte, is_byte}

pub first_place : (a : ℕ) (xs : List ℕ) (r : Option ℕ) → IsFirstByte (is_byte a) xs r → r ≡ position (λ b. b == a) xs
first_place a xs None h =
    let e = position_or_len_is (λ b. b == a) xs (length xs) 0 (omega arith)
    (λ k l. false_from_ne_true (get_or xs k 0 == a) (h k (omega arith) l)) (λ l. absurd (omega arith)) in
    grind (arith, nat_tests)
first_place a xs (Some k) h = grind (arith, common_steps, position_or_len_is)
