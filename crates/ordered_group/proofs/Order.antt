-- The order of amounts: what comparing two answers, and what follows for the greater and the lesser.
use Rattle.std.proofs.Common.{◌≡◌, ◌↔◌, true, sym, refl, ap, arith, ◌<ℤ◌, ◌⊎◌, inl, inr, Ordering}
use Rattle.std.specs.declared.cmp.Ordering.TheVariants.{Less, Equal, Greater}
use Rattle.std.specs.Ordering.{MatchOrdering, is_eq, ordering_then, int_cmp}
use Rattle.std.specs.Cmp.{int_ranks}
use Rattle.std.proofs.lemmas.Int.{ints}
use Rattle.ordered_group.specs.Amount.{Amount, zero_amount, plus, minus, AtMost, Below, Amount_eq, amount_cmp}
use Rattle.ordered_group.specs.Amount.{larger_amount, larger_of, lesser_amount, lesser_of, positive, negative}

then_ranks : (x y : Amount) (o p : Ordering) → MatchOrdering o (x.w <ℤ y.w) (x.w ≡ y.w) (y.w <ℤ x.w)
    → MatchOrdering p (x.c <ℤ y.c) (x.c ≡ y.c) (y.c <ℤ x.c) → MatchOrdering (ordering_then o p) (Below x y) (x ≡ y)
    (Below y x)
then_ranks x y Equal Equal h k = Amount_eq x y h k
then_ranks x y Equal p h k = record { worths = omega (arith, ints); counts = λ e. k }
then_ranks x y o p h k = record { worths = omega (arith, ints); counts = λ e. omega (arith, ints) }

-- what `amount_cmp` answers
pub amount_ranks : (x y : Amount) → MatchOrdering (amount_cmp x y) (Below x y) (x ≡ y) (Below y x)
amount_ranks x y = then_ranks x y (int_cmp x.w y.w) (int_cmp x.c y.c) (int_ranks x.w y.w) (int_ranks x.c y.c)

larger_cases : (x y : Amount) (o : Ordering) → MatchOrdering o (Below x y) (x ≡ y) (Below y x)
    → ((larger_of o x y ≡ y) × AtMost x y) ⊎ ((larger_of o x y ≡ x) × AtMost y x)
larger_cases x y Less h = inl (refl, record { worths = h.worths; counts = λ e. omega (arith, ints, h.counts e) })
larger_cases x y Equal h = inr
    (refl, record { worths = omega (arith, ints, ap (λ a. a.w) h); counts = λ e. omega (arith, ints, ap (λ a. a.c) h) })
larger_cases x y Greater h = inr (refl, record { worths = h.worths; counts = λ e. omega (arith, ints, h.counts e) })

pub larger_is : (x y : Amount) → ((larger_amount x y ≡ y) × AtMost x y) ⊎ ((larger_amount x y ≡ x) × AtMost y x)
larger_is x y = larger_cases x y (amount_cmp x y) (amount_ranks x y)

parts : (x p q : Amount) → ((p ≡ zero_amount) × AtMost x zero_amount) ⊎ ((p ≡ x) × AtMost zero_amount x)
    → ((q ≡ zero_amount) × AtMost (minus zero_amount x) zero_amount)
    ⊎ ((q ≡ minus zero_amount x) × AtMost zero_amount (minus zero_amount x)) → x ≡ minus p q
parts x p q (inl h) (inl k) = Amount_eq _ _ (omega (arith, ints, ap (λ a. a.w) h.0, ap (λ a. a.w) k.0, h.1, k.1))
    (omega (arith, ints, ap (λ a. a.c) h.0, ap (λ a. a.c) k.0, h.1, k.1))
parts x p q (inl h) (inr k) = Amount_eq _ _ (omega (arith, ints, ap (λ a. a.w) h.0, ap (λ a. a.w) k.0))
    (omega (arith, ints, ap (λ a. a.c) h.0, ap (λ a. a.c) k.0))
parts x p q (inr h) (inl k) = Amount_eq _ _ (omega (arith, ints, ap (λ a. a.w) h.0, ap (λ a. a.w) k.0))
    (omega (arith, ints, ap (λ a. a.c) h.0, ap (λ a. a.c) k.0))
parts x p q (inr h) (inr k) = Amount_eq _ _ (omega (arith, ints, ap (λ a. a.w) h.0, ap (λ a. a.w) k.0, h.1, k.1))
    (omega (arith, ints, ap (λ a. a.c) h.0, ap (λ a. a.c) k.0, h.1, k.1))

-- x is its positive part less its negative part
pub positive-negative : (x : Amount) → x ≡ minus (positive x) (negative x)
positive-negative x = parts x (positive x) (negative x) (larger_is x zero_amount)
    (larger_is (minus zero_amount x) zero_amount)

ranked_eq : (x y : Amount) (o : Ordering) → MatchOrdering o (Below x y) (x ≡ y) (Below y x) → (is_eq o ≡ true) ↔ (x ≡ y)
ranked_eq x y Equal h = (λ e. h, λ k. refl)
ranked_eq x y o h = (λ e. absurd cc, λ k. absurd (omega (arith, ints, h, ap (λ a. a.w) k, ap (λ a. a.c) k)))

pub is_eq_tells : (x y : Amount) → (is_eq (amount_cmp x y) ≡ true) ↔ (x ≡ y)
is_eq_tells x y = ranked_eq x y (amount_cmp x y) (amount_ranks x y)

pub AtMost-refl : (x : Amount) → AtMost x x
AtMost-refl x = record { worths = omega (arith, ints); counts = λ e. omega (arith, ints) }

pub AtMost-trans : (x y z : Amount) → AtMost x y → AtMost y z → AtMost x z
AtMost-trans x y z h k = record { worths = omega (arith, ints, h, k); counts = λ e. omega (arith, ints, h, k, e) }

-- two amounts that are at most each other are the same
pub AtMost-both : (x y : Amount) → AtMost x y → AtMost y x → x ≡ y
AtMost-both x y h k = Amount_eq _ _ (omega (arith, ints, h, k)) (omega (arith, ints, h, k))

pub AtMost-same : (x y : Amount) → x ≡ y → AtMost x y
AtMost-same x y h = record {
  worths = omega (arith, ints, ap (λ a. a.w) h);
  counts = λ e. omega
      (arith, ints, ap (λ a. a.c) h);
}

-- sums of lesser amounts are lesser
pub AtMost-plus_both : (x y u v : Amount) → AtMost x y → AtMost u v → AtMost (plus x u) (plus y v)
AtMost-plus_both x y u v h k = record { worths = omega (arith, ints, h, k); counts = λ e. omega (arith, ints, h, k, e) }

-- what is below is at most, and is not the same
pub Below-most : (x y : Amount) → Below x y → AtMost x y
Below-most x y h = record { worths = h.worths; counts = λ e. omega (arith, ints, h.counts e) }

pub Below-not : (x y : Amount) → Below x y → AtMost y x → ⊥
Below-not x y h k = absurd (omega (arith, ints, h, k))

below_cases : (x y : Amount) (o : Ordering) → MatchOrdering o (Below x y) (x ≡ y) (Below y x) → AtMost x y ⊎ Below y x
below_cases x y Less h = inl (Below-most x y h)
below_cases x y Equal h = inl (AtMost-same x y h)
below_cases x y Greater h = inr h

-- an amount is at most another, or above it
pub most_or_below : (x y : Amount) → AtMost x y ⊎ Below y x
most_or_below x y = below_cases x y (amount_cmp x y) (amount_ranks x y)

lesser_cases : (x y : Amount) (o : Ordering) → MatchOrdering o (Below x y) (x ≡ y) (Below y x)
    → ((lesser_of o x y ≡ x) × AtMost x y) ⊎ ((lesser_of o x y ≡ y) × AtMost y x)
lesser_cases x y Less h = inl (refl, Below-most x y h)
lesser_cases x y Equal h = inl (refl, AtMost-same x y h)
lesser_cases x y Greater h = inr (refl, Below-most y x h)

-- the lesser of two is one of them, and at most each
pub lesser_amount_is : (x y : Amount) → ((lesser_amount x y ≡ x) × AtMost x y) ⊎ ((lesser_amount x y ≡ y) × AtMost y x)
lesser_amount_is x y = lesser_cases x y (amount_cmp x y) (amount_ranks x y)

pub lesser_amount-left : (x y : Amount) → AtMost (lesser_amount x y) x
lesser_amount-left x y = elim (lesser_amount_is x y) [ inl h ↦ AtMost-same _ _ h.0 | inr h ↦ rw h.0 h.1 ]

pub lesser_amount-right : (x y : Amount) → AtMost (lesser_amount x y) y
lesser_amount-right x y = elim (lesser_amount_is x y) [ inl h ↦ rw h.0 h.1 | inr h ↦ AtMost-same _ _ h.0 ]

pub larger_amount-right : (x y : Amount) → AtMost y (larger_amount x y)
larger_amount-right x y = elim (larger_is x y) [ inl h ↦ AtMost-same _ _ (sym h.0) | inr h ↦ rw h.0 h.1 ]
