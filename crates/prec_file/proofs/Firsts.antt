-- The number of each block's first pair, of pairs in order.
use Rattle.fixed_worth.proofs.Common.{◌≡◌, ℕ, ◌+◌, ◌<◌, ◌≤◌, nat_lt, inl, inr, List, length, get_or, sym, subst, ◌∙◌}
use Rattle.fixed_worth.proofs.Common.{arith, cases_eq, cases_lt, common_steps}
use Rattle.prec_file.specs.Prelude.{count_ending_below, from_at, IsRising, IsStarts}
use Rattle.prec_file.proofs.Passing.{passing_between}
use Rattle.prec_file.proofs.Slots.{ending_all}
use Rattle.prec_file.proofs.Order.{up_from, lt_false}

-- the first numbers, where those below k are of the blocks that have one
pub record FirstsSoFar (ps : List (ℕ × ℕ)) (n k : ℕ) (firsts : List ℕ) : Type 0 where
  pub size : length firsts ≤ n + 1
  pub at : (b : ℕ) → b < length firsts → get_or firsts b 0 ≡ count_ending_below (from_at ps) b (length ps)
  pub passed : (j : ℕ) → j < k → from_at ps j < length firsts

-- the pairs before k are of blocks below b, and the others aren't
first_is : (ps : List (ℕ × ℕ)) (b k : ℕ) → k ≤ length ps → ((j : ℕ) → j < k → from_at ps j < b)
    → ((j : ℕ) → k ≤ j → j < length ps → b ≤ from_at ps j) → count_ending_below (from_at ps) b (length ps) ≡ k
first_is ps b k l before beyond =
    passing_between (λ j. nat_lt (from_at ps j) b) k (length ps) l (λ j h i. lt_false (from_at ps j) b (beyond j h i))
    ∙ ending_all (from_at ps) b k before

-- no later pair is of a block below
pub later : (ps : List (ℕ × ℕ)) → IsRising ps → (k : ℕ) → k < length ps → (j : ℕ) → k ≤ j → j < length ps
    → from_at ps k ≤ from_at ps j
later ps r k l j h i = elim (cases_eq k j) [
  | inl e ↦ let P : ℕ → Type 0 = λ x. from_at ps k ≤ from_at ps x in subst P e (omega arith)
  | inr d ↦ up_from ps r k j (omega arith) i
]

-- what is put for the blocks up to that of pair k
pub firsts_more : (ps : List (ℕ × ℕ)) → IsRising ps → (n k : ℕ) (firsts filled : List ℕ) → FirstsSoFar ps n k firsts
    → k < length ps → from_at ps k < n → length filled ≡ from_at ps k + 1 → length firsts ≤ length filled
    → ((i : ℕ) → i < length firsts → get_or filled i 0 ≡ get_or firsts i 0)
    → ((i : ℕ) → length firsts ≤ i → i < length filled → get_or filled i 0 ≡ k) → FirstsSoFar ps n (k + 1) filled
firsts_more ps r n k firsts filled h l known size more kept put = record {
  size = omega (arith, size);
  at = λ b i. elim (cases_lt b (length firsts)) [
    | inl o ↦ kept b o ∙ h.at b o
    | inr o ↦ omega (
      arith,
      put b o i,
      first_is ps b k (omega arith) (λ j m. let p = h.passed j m in omega arith)
          (λ j m q. let p = later ps r k l j m q in omega (arith, size)),
    )
  ];
  passed = λ j i. elim (cases_eq j k) [
    | inl e ↦ let P : ℕ → Type 0 = λ x. from_at ps x < length filled in subst P (sym e) (omega (arith, size))
    | inr d ↦ let p = h.passed j (omega arith) in omega arith
  ];
}

-- where the block of pair k has its number
pub firsts_same : (ps : List (ℕ × ℕ)) (n k : ℕ) (firsts : List ℕ) → FirstsSoFar ps n k firsts
    → from_at ps k < length firsts → FirstsSoFar ps n (k + 1) firsts
firsts_same ps n k firsts h l = grind (arith, common_steps)

-- what is put for the blocks after the last pair
pub firsts_all : (ps : List (ℕ × ℕ)) (n : ℕ) (firsts filled : List ℕ) → FirstsSoFar ps n (length ps) firsts
    → length filled ≡ n + 1
    → ((i : ℕ) → i < length firsts → get_or filled i 0 ≡ get_or firsts i 0)
    → ((i : ℕ) → length firsts ≤ i → i < length filled → get_or filled i 0 ≡ length ps)
    → IsStarts (from_at ps) (length ps) n filled
firsts_all ps n firsts filled h size kept put = record {
  size = size;
  at = λ b i. elim (cases_lt b (length firsts)) [
    | inl o ↦ kept b o ∙ h.at b o
    | inr o ↦ omega (
      arith,
      put b o (omega (arith, size)),
      first_is ps b (length ps) (omega arith)
          (λ j m. let p = h.passed j m in omega arith) (λ j m q. absurd (omega arith)),
    )
  ];
}
