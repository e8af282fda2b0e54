-- The line of a block, by its pieces.
use Rattle.fixed_worth.proofs.Common.{◌≡◌, ℕ, ℤ, pos, ◌<ℤ◌, ◌≤ℤ◌, true, false, ◌-◌, ◌/◌, ◌%◌, ◌^◌, ◌≤◌, List, [], ◌∷◌}
use Rattle.fixed_worth.proofs.Common.{◌++◌, length, take, replicate, sym, ap, ◌∙◌, arith, append_assoc, append-nil}
use Rattle.fixed_worth.proofs.Common.{unsigned_abs, is_negative, decimal, sign_text, take-replicate, common_steps}
use Rattle.fixed_worth.specs.Printed.{fixed_width, without_trailing_zeros, fraction_text, amount_text}
use Rattle.fixed_worth.proofs.Shown.{no_fraction, point_and_digits}
use Rattle.upit_file.specs.Writing.{record_line}

pub no_fraction_pushed : (n : ℕ) (old : List ℕ) → n ≡ 0 → old ≡ old ++ fraction_text 6 n
no_fraction_pushed n old e = sym (append-nil old) ∙ ap (λ t. old ++ t) (no_fraction 6 n e)

-- A point, leading zeros, and the digits.
pub fraction_pushed : (n w d zeros : ℕ) (old number line : List ℕ) → (n ≡ 0 → ⊥)
    → without_trailing_zeros (fixed_width 6 n) ≡ fixed_width w d → number ≡ decimal d → zeros ≡ w - length number
    → w ≤ 6
    → line ≡ ((old ++ (46 ∷ [])) ++ take zeros (replicate 6 48)) ++ number → line ≡ old ++ fraction_text 6 n
fraction_pushed n w d zeros old number line some same e z six f =
    f ∙ ap (λ k. ((old ++ (46 ∷ [])) ++ k) ++ number) (take-replicate zeros 6 48 (omega arith)) ∙ (simp append_assoc)
    ∙ ap (λ k. old ++ (46 ∷ (replicate k 48 ++ number))) z
    ∙ ap (λ ds. old ++ (46 ∷ (replicate (w - length ds) 48 ++ ds))) e
    ∙ ap (λ t. old ++ t) (point_and_digits 6 n w d some same)

-- The number, a space, the sign, the whole part and the fraction.
pub line_made : (b size : ℕ) (z : ℤ) (one two three four five : List ℕ) → size ≡ unsigned_abs z → one ≡ decimal b
    → two ≡ one ++ (32 ∷ []) → three ≡ two ++ sign_text (is_negative z) → four ≡ three ++ decimal (size / 10 ^ 6)
    → five ≡ four ++ fraction_text 6 (size % 10 ^ 6) → five ≡ record_line b z
unfolding amount_text
line_made b size z one two three four five e p q r s t = grind (arith, common_steps)

negative : (z : ℤ) → z <ℤ pos 0 → is_negative z ≡ true
negative z h = grind (arith, common_steps)

not_negative : (z : ℤ) → pos 0 ≤ℤ z → is_negative z ≡ false
not_negative z h = grind (arith, common_steps)

pub minus_pushed : (z m : ℤ) (old line : List ℕ) → m ≡ z → m <ℤ pos 0 → line ≡ old ++ (45 ∷ [])
    → line ≡ old ++ sign_text (is_negative z)
minus_pushed z m old line e h s = s ∙ ap (λ t. old ++ sign_text t) (sym (negative m h) ∙ ap is_negative e)

pub none_pushed : (z m : ℤ) (old line : List ℕ) → m ≡ z → pos 0 ≤ℤ m → line ≡ old
    → line ≡ old ++ sign_text (is_negative z)
none_pushed z m old line e h s = s ∙ sym (append-nil old)
    ∙ ap (λ t. old ++ sign_text t) (sym (not_negative m h) ∙ ap is_negative e)
