-- The list of worths grows node by node.
use Rattle.fixed_worth.proofs.Common.{◌≡◌, ℕ, ◌+◌, ◌<◌, List, [], ◌∷◌, ◌++◌, length, get_or, inl, inr, ap, ◌∙◌, arith}
use Rattle.fixed_worth.proofs.Common.{ℤ, pos, length-append, get_or_append_left, get_or_push, cases_lt}

-- one worth more
pub worth_pushed : (g : ℕ → ℤ) (xs ys : List ℤ) (x : ℤ) (i : ℕ) → ys ≡ xs ++ x ∷ [] → length xs ≡ i
    → ((j : ℕ) → j < i → get_or xs j (pos 0) ≡ g j) → x ≡ g i
    → (length ys ≡ i + 1) × ((j : ℕ) → j < i + 1 → get_or ys j (pos 0) ≡ g j)
worth_pushed g xs ys x i e size before here = (
  omega (arith, ap length e, length-append xs (x ∷ []), size),
  λ j l. ap (λ zs. get_or zs j (pos 0)) e ∙ elim (cases_lt j i) [
    | inl below ↦ get_or_append_left xs (x ∷ []) (pos 0) j (omega (arith, below, size)) ∙ before j below
    | inr past ↦
        let same : i ≡ j = omega (arith, l, past) in
        get_or_push xs x (pos 0) j (size ∙ same) ∙ here ∙ ap g same
  ],
)
