-- Worths, numbers and sums of sets of blocks.
use Rattle.std.proofs.Common.{◌≡◌, ℕ, zero, suc, ◌<◌, ◌≤◌, Bool, true, false, cond, ◌==◌, refl, sym, ap, ap₂, ◌∙◌}
use Rattle.std.proofs.Common.{arith, ℤ, pos, ◌+ℤ◌, ◌≤ℤ◌, inl, inr}
use Rattle.std.proofs.lemmas.Int.{ints}
use Rattle.std.proofs.lemmas.Bool.{cases_eq, eq-eqb, ne_eqb}
use Rattle.ordered_group.specs.Prelude.{Amount, worth_in, count_in, worth_block, worth_told, SumsTellWorth}
use Rattle.ordered_group.specs.Prelude.{BlocksTellWorth}
pub use Rattle.ordered_group.specs.ScaledProofs.{count_in-most}
use Rattle.ordered_group.proofs.Totals.Sets.{union, intersection, total-one, two_sets}
use Rattle.std.proofs.lemmas.Grind.{common_steps}

-- equal sets are worth the same, have as many blocks, and have one sum
pub worth_in-same : (v : ℕ → ℤ) (e c : ℕ → Bool) (n : ℕ) → ((b : ℕ) → b < n → e b ≡ c b)
    → worth_in v e n ≡ worth_in v c n
worth_in-same v e c zero h = refl
worth_in-same v e c (suc n) h = rw (worth_in-same v e c n (λ b l. h b (omega (arith, l))), h n (omega arith)) refl

-- equal sets of blocks that are worth the same are worth the same together
pub worth_in-agrees : (v w : ℕ → ℤ) (e c : ℕ → Bool) (n : ℕ) → ((b : ℕ) → b < n → v b ≡ w b)
    → ((b : ℕ) → b < n → e b ≡ c b) → worth_in v e n ≡ worth_in w c n
worth_in-agrees v w e c zero f h = refl
worth_in-agrees v w e c (suc n) f h = rw (
  worth_in-agrees v w e c n (λ b l. f b (omega (arith, l))) (λ b l. h b (omega (arith, l))),
  f n (omega arith),
  h n
      (omega arith),
) refl

pub count_in-same : (e c : ℕ → Bool) (n : ℕ) → ((b : ℕ) → b < n → e b ≡ c b) → count_in e n ≡ count_in c n
count_in-same e c zero h = refl
count_in-same e c (suc n) h = rw (count_in-same e c n (λ b l. h b (omega (arith, l))), h n (omega arith)) refl

-- the union and the intersection are worth together what both sets are
pub worth_of_two : (v : ℕ → ℤ) (e c : ℕ → Bool) (n : ℕ) → worth_in v (union e c) n +ℤ worth_in v (intersection e c) n
    ≡ worth_in v e n +ℤ worth_in v c n
worth_of_two v e c n =
    let sums = ap (λ a. a.w) (two_sets (λ k. worth_block (v k) n) e c n) in
    omega (
      arith,
      ints,
      sums,
      worth_told v (union e c) n,
      worth_told v (intersection e c) n,
      worth_told v e n,
      worth_told v c n,
    )

worth_rises : (s t : Bool) (x y : ℤ) → (s ≡ true → t ≡ true) → x ≤ℤ y
    → (cond s y (pos 0) +ℤ cond t x (pos 0)) ≤ℤ (cond t y (pos 0) +ℤ cond s x (pos 0))
worth_rises true true x y h l = omega (arith, ints)
worth_rises true false x y h l = absurd (let i = h refl in cc)
worth_rises false true x y h l = omega (arith, ints)
worth_rises false false x y h l = omega arith

-- where no block is worth less, a set within another falls after it by no less
pub lead_rises : (v w : ℕ → ℤ) (e c : ℕ → Bool) (n : ℕ) → ((b : ℕ) → b < n → e b ≡ true → c b ≡ true)
    → ((b : ℕ) → b < n → v b ≤ℤ w b)
    → (worth_in w e n +ℤ worth_in v c n) ≤ℤ (worth_in w c n +ℤ worth_in v e n)
lead_rises v w e c zero h r = omega arith
lead_rises v w e c (suc n) h r =
    let i = lead_rises v w e c n (λ b l. h b (omega arith)) (λ b l. r b (omega arith)) in
    let t = worth_rises (e n) (c n) (v n) (w n) (h n (omega arith)) (r n (omega arith)) in
    omega (arith, ints, i, t)

-- the set of one block
none_before : (v : ℤ) (c n : ℕ) → n ≤ c → (worth_in (λ b. v) (λ b. c == b) n ≡ pos 0) × (count_in (λ b. c == b) n ≡ 0)
none_before v c zero h = (refl, refl)
none_before v c (suc n) h = grind (arith, common_steps, (none_before v c n (omega (arith, h))))

pub one_block : (v : ℤ) (c n : ℕ) → c < n → (worth_in (λ b. v) (λ b. c == b) n ≡ v) × (count_in (λ b. c == b) n ≡ 1)
one_block v c zero h = absurd (omega (arith, h))
one_block v c (suc n) h =
    elim (cases_eq c n) [
      | inl i ↦
          let p = none_before v c n (omega (arith, i)) in
          let q = eq-eqb c n i in
          (rw q (omega (arith, ints, p.0)), rw q (omega (arith, p.1)))
      | inr d ↦
          let p = one_block v c n (omega (arith, h, d)) in
          let q = ne_eqb c n d in
          (rw q (omega (arith, ints, p.0)), rw q (omega (arith, p.1)))
    ]

-- where sums tell the worths of sets, they tell those of single blocks
pub blocks_from_sums : (block : ℤ → ℕ → Amount) (worth : Amount → ℕ → ℕ → ℤ) → SumsTellWorth block worth
    → BlocksTellWorth block worth
blocks_from_sums block worth told v n h =
    let sum = total-one (λ b. true) 0 (block v n) n h in
    let one = one_block v 0 n h in
    ap₂ (λ a k. worth a n k) (sym sum) (sym one.1) ∙ told (λ b. v) (λ b. 0 == b) n ∙ one.0

-- a set within another has no more blocks, and as many only where it is that set
pub count_in-within : (a e : ℕ → Bool) (n : ℕ) → ((b : ℕ) → b < n → a b ≡ true → e b ≡ true)
    → (count_in a n ≤ count_in e n) × (count_in a n ≡ count_in e n → (b : ℕ) → b < n → a b ≡ e b)
count_in-within a e zero s = (omega arith, λ p b l. absurd (omega (arith, l)))
count_in-within a e (suc n) s = grind (arith, common_steps, (count_in-within a e n (λ b l. s b (omega (arith, l)))))
