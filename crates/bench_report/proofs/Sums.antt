-- Sets of blocks, block by block.
use Rattle.fixed_worth.proofs.Common.{◌≡◌, ℕ, zero, suc, ◌+◌, ◌<◌, ℤ, pos, ◌+ℤ◌, Bool, true, false, cond, refl, ap, ◌∙◌}
use Rattle.fixed_worth.proofs.Common.{arith, inl, inr, ints, cases_lt}
use Rattle.ordered_group.specs.Sets.{worth_in, count_in}

pub plus-none : (x : ℤ) → x +ℤ pos 0 ≡ x
plus-none x = omega (arith, ints)

-- a set of no blocks is worth nothing
none_step : (v : ℕ → ℤ) (e : ℕ → Bool) (n : ℕ) (t : Bool) → worth_in v e n ≡ pos 0 → count_in e n + cond t 1 0 ≡ 0
    → worth_in v e n +ℤ cond t (v n) (pos 0) ≡ pos 0
none_step v e n true i h = absurd (omega (arith, h))
none_step v e n false i h = omega (arith, ints, i)

none_so_far : (n : ℕ) (t : Bool) → n + cond t 1 0 ≡ 0 → n ≡ 0
none_so_far n true h = absurd (omega (arith, h))
none_so_far n false h = omega (arith, h)

pub worth_of_none : (v : ℕ → ℤ) (e : ℕ → Bool) (n : ℕ) → count_in e n ≡ 0 → worth_in v e n ≡ pos 0
worth_of_none v e zero h = refl
worth_of_none v e (suc n) h = none_step v e n (e n) (worth_of_none v e n (none_so_far (count_in e n) (e n) h)) h

one_more : (t : Bool) → t ≡ true → 0 < cond t 1 0
one_more true h = omega arith
one_more false h = absurd cc

-- a set with a block has some
pub some_blocks : (e : ℕ → Bool) (n b : ℕ) → b < n → e b ≡ true → 0 < count_in e n
some_blocks e zero b l h = absurd (omega (arith, l))
some_blocks e (suc n) b l h = elim (cases_lt b n) [
  | inl k ↦ omega (arith, some_blocks e n b k h)
  | inr k ↦ (let same : n ≡ b = omega (arith, k, l) in omega (arith, one_more (e n) (ap e same ∙ h)))
]

-- and where it has some, one of them is its last
last_step : (e : ℕ → Bool) (n : ℕ) (t : Bool) → e n ≡ t → 0 < count_in e n + cond t 1 0
    → (0 < count_in e n → (b : ℕ) × (b < n) × (e b ≡ true)) → (b : ℕ) × (b < suc n) × (e b ≡ true)
last_step e n true h l i = (n, omega arith, h)
last_step e n false h l i = let p = i (omega (arith, l)) in (p.0, omega (arith, p.1), p.2)

pub some_block : (e : ℕ → Bool) (n : ℕ) → 0 < count_in e n → (b : ℕ) × (b < n) × (e b ≡ true)
some_block e zero l = absurd (omega (arith, l))
some_block e (suc n) l = last_step e n (e n) refl l (some_block e n)
