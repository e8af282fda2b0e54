-- Sums over sets of numbers, a set being a test.
use Rattle.std.proofs.Common.{◌≡◌, ℕ, zero, suc, ◌<◌, ◌≤◌, Bool, true, false, ◌==◌, ◌&&◌, ◌||◌, ◌⊎◌, inl, inr, sym}
use Rattle.std.proofs.Common.{refl, ◌∙◌, arith}
use Rattle.std.proofs.lemmas.Int.{ints}
use Rattle.std.proofs.lemmas.Bool.{cases_eq, eq-eqb, ne_eqb, and_parts}
use Rattle.ordered_group.specs.Prelude.{Amount, zero_amount, plus, minus, AtMost, Amount_eq, total, where_so, at_end}
use Rattle.ordered_group.proofs.Order.{AtMost-refl}
use Rattle.ordered_group.proofs.Signs.{NonNeg, NonNeg-zero}
use Rattle.ordered_group.proofs.Totals.Ranges.{total-same, total-plus, total-zero, total-none, plus-zero_left}
use Rattle.ordered_group.proofs.Totals.Ranges.{plus-zero_right}

-- zero is zero under every test
pub where_so-zero : (b : Bool) → where_so b zero_amount ≡ zero_amount
where_so-zero true = refl
where_so-zero false = refl

-- a sum under a test is the sum of its parts under it
pub where_so-plus : (b : Bool) (x y : Amount) → where_so b (plus x y) ≡ plus (where_so b x) (where_so b y)
where_so-plus true x y = refl
where_so-plus false x y = refl

-- a difference under a test is the difference of its parts under it
pub where_so-minus : (b : Bool) (x y : Amount) → where_so b (minus x y) ≡ minus (where_so b x) (where_so b y)
where_so-minus true x y = refl
where_so-minus false x y = refl

-- under a test that holds an amount is itself, and under one that doesn't it is zero
pub where_at : (b : Bool) (x : Amount) → b ≡ true → where_so b x ≡ x
where_at b x h = rw h refl

pub where_not : (b : Bool) (x : Amount) → b ≡ false → where_so b x ≡ zero_amount
where_not b x h = rw h refl

-- an amount that is not negative is so under every test
pub where_nonneg : (b : Bool) (x : Amount) → NonNeg x → NonNeg (where_so b x)
where_nonneg true x h = h
where_nonneg false x h = NonNeg-zero

-- a smaller amount under a narrower test
pub where_most : (s t : Bool) (x y : Amount) → (s ≡ true → t ≡ true) → AtMost x y → NonNeg y
    → AtMost (where_so s x) (where_so t y)
where_most true true x y i h k = h
where_most true false x y i h k = absurd (let e = i refl in cc)
where_most false true x y i h k = k
where_most false false x y i h k = NonNeg-zero

-- the wider test may lack what is at most zero
pub where_most_or : (s t : Bool) (x : Amount) → (s ≡ true → (t ≡ true) ⊎ AtMost x zero_amount) → NonNeg x
    → AtMost (where_so s x) (where_so t x)
where_most_or true true x i h = AtMost-refl x
where_most_or true false x i h = elim (i refl) [ inl e ↦ absurd cc | inr m ↦ m ]
where_most_or false true x i h = h
where_most_or false false x i h = NonNeg-zero

apart : (e b : Bool) (x : Amount) → b ≡ false → where_so e (where_so b x) ≡ zero_amount
apart e b x h = rw h (where_so-zero e)

here : (e : ℕ → Bool) (c n : ℕ) (x : Amount) → c ≡ n → where_so (e n) (where_so (c == n) x) ≡ where_so (e c) x
here e c n x h = rw (eq-eqb c n h, h) refl

total_before : (e : ℕ → Bool) (c : ℕ) (x : Amount) (n : ℕ) → n ≤ c
    → total (λ b. where_so (e b) (where_so (c == b) x)) n ≡ zero_amount
total_before e c x n h = total-none _ n (λ b l. apart (e b) (c == b) x (ne_eqb c b (λ k. omega (arith, h, l, k))))

-- the one term that is not zero is the one at c
pub total-one : (e : ℕ → Bool) (c : ℕ) (x : Amount) (n : ℕ) → c < n
    → total (λ b. where_so (e b) (where_so (c == b) x)) n ≡ where_so (e c) x
total-one e c x zero h = absurd (omega arith)
total-one e c x (suc n) h =
    elim (cases_eq c n) [
      | inl i ↦
          let p = total_before e c x n (omega arith) in
          let q = here e c n x i in
          rw (p, q) (plus-zero_left _)
      | inr d ↦
          let p = total-one e c x n (omega arith) in
          let q = apart (e n) (c == n) x (ne_eqb c n d) in
          rw (p, q) (plus-zero_right _)
    ]

-- what ends at each number of a set, summed by those numbers, is the sum over the pairs that end in the set
pub route : (e : ℕ → Bool) (end : ℕ → ℕ) (f : ℕ → Amount) (n m : ℕ) → ((k : ℕ) → k < m → end k < n)
    → total (λ b. where_so (e b) (at_end end f m b)) n ≡ total (λ k. where_so (e (end k)) (f k)) m
route e end f n zero h = total-same _ _ n (λ b k. where_so-zero (e b)) ∙ total-zero n
route e end f n (suc m) h =
    let p = route e end f n m (λ k l. h k (omega arith)) in
    let q = total-one e (end m) (f m) n (h m (omega arith)) in
    total-same _ (λ b. plus (where_so (e b) (at_end end f m b)) (where_so (e b) (where_so (end m == b) (f m)))) n
    (λ b k. where_so-plus (e b) _ _)
    ∙ total-plus (λ b. where_so (e b) (at_end end f m b)) (λ b. where_so (e b) (where_so (end m == b) (f m))) n
    ∙ rw (p, q) refl

-- what ends at each number, summed by all numbers, is the sum over all pairs: each is counted once
pub route_all : (end : ℕ → ℕ) (f : ℕ → Amount) (n m : ℕ) → ((k : ℕ) → k < m → end k < n)
    → total (at_end end f m) n ≡ total f m
route_all end f n m h = route (λ b. true) end f n m h

-- what is in one of the sets
abbrev pub union : (ℕ → Bool) → (ℕ → Bool) → ℕ → Bool
union a b k = a k || b k

-- what is in both sets
abbrev pub intersection : (ℕ → Bool) → (ℕ → Bool) → ℕ → Bool
intersection a b k = a k && b k

pub within_first : (a b : ℕ → Bool) (k : ℕ) → intersection a b k ≡ true → a k ≡ true
within_first a b k t = (and_parts (a k) (b k) t).0

pub within_second : (a b : ℕ → Bool) (k : ℕ) → intersection a b k ≡ true → b k ≡ true
within_second a b k t = (and_parts (a k) (b k) t).1

share : (a b : Bool) (x : Amount) → plus (where_so (a || b) x) (where_so (a && b) x) ≡ plus (where_so a x)
    (where_so b x)
share false true x = Amount_eq _ _ (omega (arith, ints)) (omega (arith, ints))
share a b x = refl

-- the sums over a union and an intersection make those over the two sets
pub two_sets : (w : ℕ → Amount) (a b : ℕ → Bool) (n : ℕ)
    → plus (total (λ k. where_so (union a b k) (w k)) n) (total (λ k. where_so (intersection a b k) (w k)) n) ≡ plus
    (total (λ k. where_so (a k) (w k)) n) (total (λ k. where_so (b k) (w k)) n)
two_sets w a b n =
    sym (total-plus (λ k. where_so (union a b k) (w k)) (λ k. where_so (intersection a b k) (w k)) n)
    ∙ total-same _ (λ k. plus (where_so (a k) (w k)) (where_so (b k) (w k))) n (λ k h. share (a k) (b k) (w k))
    ∙ total-plus (λ k. where_so (a k) (w k)) (λ k. where_so (b k) (w k)) n
