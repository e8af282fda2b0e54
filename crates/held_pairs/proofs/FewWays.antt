-- A block has no more pairs than ways, so that few ways are few pairs.
use Rattle.fixed_worth.proofs.Common.{◌≡◌, ℕ, zero, suc, ◌+◌, ◌<◌, ◌≤◌, ◌^◌, ◌==◌, ◌||◌, ◌∙◌, Bool, true, false, inl}
use Rattle.fixed_worth.proofs.Common.{inr, Option, Some, None, length, sym, subst, refl, arith, true≢false}
use Rattle.fixed_worth.proofs.Common.{false_from_ne_true, cases_Bool, or_cases, eq-eqb, eqb-true, length-map}
use Rattle.fixed_worth.proofs.Common.{length-append, cases_eq, add-one}
use Rattle.prec_file.specs.Rests.{IsRests, numbers_passing}
use Rattle.prec_file.proofs.Passing.{bit, bit-true, bit-false, bit-most, length-numbers_passing}
use Rattle.places.specs.Prelude.{PrecedenceView, IsPrecedence, any_below, implied, block_pairs, pairs_below}
use Rattle.places.proofs.GridWays.{any_to}
use Rattle.places.proofs.ImpliedPairs.{implied_is}

-- whether what a way leads to is this block
abbrev is_at : Option ℕ → ℕ → Bool
is_at None p = false
is_at (Some q) p = q == p

bit_or : (s t : Bool) → bit (s || t) ≤ bit s + bit t
bit_or s t = elim (cases_Bool s) [
  | inl e ↦ omega (arith, bit-most (s || t), bit-true s e)
  | inr e ↦ elim (cases_Bool t) [
    | inl f ↦ omega (arith, bit-most (s || t), bit-true t f)
    | inr f ↦ omega (
      arith,
      bit-false (s || t) (false_from_ne_true (s || t) (λ h. elim (or_cases s t h) [
        | inl a ↦ true≢false (sym a ∙ e)
        | inr b ↦ true≢false (sym b ∙ f)
      ])),
    )
  ]
]

bit_less : (s t : Bool) → (s ≡ true → t ≡ true) → bit s ≤ bit t
bit_less s t h = elim (cases_Bool s) [
  | inl e ↦ omega (arith, bit-true s e, bit-true t (h e))
  | inr e ↦ omega (arith, bit-false s e)
]

-- a wider test has as many
pub passing_within : (s t : ℕ → Bool) (n : ℕ) → ((k : ℕ) → k < n → s k ≡ true → t k ≡ true)
    → length (numbers_passing s n) ≤ length (numbers_passing t n)
passing_within s t zero h = omega arith
passing_within s t (suc n) h = omega (
  arith,
  length-numbers_passing s n,
  length-numbers_passing t n,
  bit_less (s n) (t n) (h n (omega arith)),
  passing_within s t n (λ k l. h k (omega arith)),
)

passing_or : (s t : ℕ → Bool) (n : ℕ) → length (numbers_passing (λ k. s k || t k) n) ≤ length (numbers_passing s n)
    + length (numbers_passing t n)
passing_or s t zero = omega arith
passing_or s t (suc n) = omega (
  arith,
  length-numbers_passing (λ k. s k || t k) n,
  length-numbers_passing s n,
  length-numbers_passing t n,
  bit_or
      (s n) (t n),
  passing_or s t n,
)

passing_none : (s : ℕ → Bool) (n : ℕ) → ((k : ℕ) → k < n → s k ≡ false) → length (numbers_passing s n) ≡ 0
passing_none s zero h = refl
passing_none s (suc n) h = omega (
  arith,
  length-numbers_passing s n,
  bit-false (s n) (h n (omega arith)),
  passing_none s n
      (λ k l. h k (omega arith)),
)

differs : (q k n : ℕ) → k < n → q ≡ n → (q == k) ≡ false
differs q k n l e = false_from_ne_true (q == k) (λ t. omega (arith, eqb-true q k t, l, e))

-- a way leads to one block at most
pub at_once : (o : Option ℕ) (n : ℕ) → length (numbers_passing (is_at o) n) ≤ 1
at_once None n = omega (arith, passing_none (is_at None) n (λ k l. refl))
at_once (Some q) zero = omega arith
at_once (Some q) (suc n) = elim (cases_eq q n) [
  | inl e ↦ omega (
    arith,
    length-numbers_passing (is_at (Some q)) n,
    bit-most (is_at (Some q) n),
    passing_none
        (is_at (Some q)) n (λ k l. differs q k n l e),
  )
  | inr d ↦ omega (
    arith,
    length-numbers_passing (is_at (Some q)) n,
    bit-false (is_at (Some q) n)
        (false_from_ne_true (q == n) (λ t. d (eqb-true q n t))),
    at_once (Some q) n,
  )
]

-- the blocks to which some ways lead are no more than these ways
reached : (way : ℕ → Option ℕ) (m n : ℕ) → length (numbers_passing (λ p. any_below (λ k. is_at (way k) p) m) n) ≤ m
reached way zero n = omega (arith, passing_none (λ p. any_below (λ k. is_at (way k) p) 0) n (λ k l. refl))
reached way (suc m) n = omega (
  arith,
  passing_or (is_at (way m)) (λ p. any_below (λ k. is_at (way k) p) m) n,
  at_once
      (way m) n,
  reached way m n,
)

here : (o : Option ℕ) (p : ℕ) → o ≡ Some p → is_at o p ≡ true
here o p e = subst (λ x. is_at x p ≡ true) (sym e) (eq-eqb p p refl)

module _ (v : PrecedenceView) (h : IsPrecedence v) where
  pub row_few : (b : ℕ) → length (block_pairs v.rests v.blocks b) ≤ v.ways b
  row_few b = omega (
    arith,
    length-map {B = ℕ × ℕ} (numbers_passing (v.rests b) v.blocks) (λ p. (b, p)),
    passing_within (v.rests b) (λ p. any_below (λ k. is_at (v.way b k) p) (v.ways b)) v.blocks (λ p l t.
        let w = h.found b p t in any_to (λ k. is_at (v.way b k) p) (v.ways b) w.0 w.1.inside
        (here (v.way b w.0) p w.1.there)),
    reached (v.way b) (v.ways b) v.blocks,
  )

  more : (b ways : ℕ) → length (pairs_below v.rests v.blocks b) ≤ ways
      → length (pairs_below v.rests v.blocks (suc b)) ≤ ways + v.ways b
  more b ways l = omega (
    arith,
    l,
    length-append (pairs_below v.rests v.blocks b) (block_pairs v.rests v.blocks b),
    row_few b,
  )

  -- one block more
  pub few_more : (b ways : ℕ) → length (pairs_below v.rests v.blocks b) ≤ ways
      → length (pairs_below v.rests v.blocks (b + 1)) ≤ ways + v.ways b
  few_more b ways l = rw (add-one b) (more b ways l)

  -- so few pairs are those of a mine
  pub few_rests : length (implied v).pairs ≤ 2 ^ 36 → IsRests (implied v)
  few_rests few = let p = (implied_is v h).pairs in record
      { blocks = p.blocks; few = few; known = p.known; rising = p.rising; apart = p.apart }
