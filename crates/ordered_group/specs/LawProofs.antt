-- Proofs that the implementations cite as their laws, so that they stand here; the laws themselves are in `Laws`.
use Rattle.std.proofs.Common.{◌≡◌, ◌↔◌, ℕ, zero, suc, ◌+◌, ◌<◌, Bool, true, false, cond, refl, arith, ℤ, pos, negsuc}
use Rattle.std.proofs.Common.{◌+ℤ◌, ◌<ℤ◌, ◌⊎◌, inl, inr, Ordering}
use Rattle.std.specs.declared.cmp.Ordering.TheVariants.{Less, Equal, Greater}
use Rattle.std.specs.Ordering.{MatchOrdering, int_cmp, ordering_then}
use Rattle.std.specs.Cmp.{int_ranks}
use Rattle.std.proofs.lemmas.Int.{ints}
use Rattle.ordered_group.specs.Amount.{Amount, plus, Below}
use Rattle.ordered_group.specs.Sums.{total, where_so}
use Rattle.ordered_group.specs.Sets.{worth_in, count_in, group_sum, IsBefore}
use Rattle.ordered_group.specs.Block.{worth_block, counted_block}

worth_step : (x : Amount) (t : Bool) (v y : ℤ) (c : ℤ) → x.w ≡ y → (plus x (where_so t (record { w = v; c = c }))).w
    ≡ y +ℤ cond t v (pos 0)
worth_step x true v y c h = omega (arith, ints, h)
worth_step x false v y c h = omega (arith, ints, h)

count_step : (x : Amount) (t : Bool) (v : ℤ) (k : ℕ) → x.c +ℤ pos k ≡ pos 0
    → (plus x (where_so t (record { w = v; c = negsuc 0 }))).c +ℤ pos (k + cond t 1 0) ≡ pos 0
count_step x true v k h = omega (arith, ints, h)
count_step x false v k h = omega (arith, ints, h)

worth_sum : (c : ℤ) (v : ℕ → ℤ) (e : ℕ → Bool) (n : ℕ) → (total (λ b. where_so (e b) (record { w = v b; c = c })) n).w
    ≡ worth_in v e n
worth_sum c v e zero = refl
worth_sum c v e (suc n) =
    worth_step (total (λ b. where_so (e b) (record { w = v b; c = c })) n) (e n) (v n) (worth_in v e n) c
    (worth_sum c v e n)

count_sum : (v : ℕ → ℤ) (e : ℕ → Bool) (n : ℕ)
    → (total (λ b. where_so (e b) (record { w = v b; c = negsuc 0 })) n).c +ℤ pos (count_in e n) ≡ pos 0
count_sum v e zero = refl
count_sum v e (suc n) =
    count_step (total (λ b. where_so (e b) (record { w = v b; c = negsuc 0 })) n) (e n) (v n) (count_in e n)
    (count_sum v e n)

-- the sum of a set tells its worth, where a block has no count
pub worth_told : (v : ℕ → ℤ) (e : ℕ → Bool) (n : ℕ) → (group_sum worth_block v e n).w ≡ worth_in v e n
worth_told v e n = worth_sum (pos 0) v e n

-- the sum of a set tells its worth, where a block has a count
pub counted_told : (v : ℕ → ℤ) (e : ℕ → Bool) (n : ℕ) → (group_sum counted_block v e n).w ≡ worth_in v e n
counted_told v e n = worth_sum (negsuc 0) v e n

ranks_of_below : (x y : Amount) (p q : ℤ) (k l : ℕ) (o : Ordering) → MatchOrdering o (p <ℤ q) (p ≡ q) (q <ℤ p)
    → x.w ≡ p → y.w ≡ q → x.c +ℤ pos k ≡ pos 0 → y.c +ℤ pos l ≡ pos 0 → Below x y → (p <ℤ q) ⊎ ((p ≡ q) × (l < k))
ranks_of_below x y p q k l Less r a b c d h = inl r
ranks_of_below x y p q k l Equal r a b c d h = inr
    (r, let i = h.counts (omega (arith, ints, a, b, r)) in omega (arith, ints, c, d, i))
ranks_of_below x y p q k l Greater r a b c d h = absurd (omega (arith, ints, a, b, r, h))

below_by_ranks : (x y : Amount) (p q : ℤ) (k l : ℕ) → x.w ≡ p → y.w ≡ q → x.c +ℤ pos k ≡ pos 0 → y.c +ℤ pos l ≡ pos 0
    → Below x y ↔ ((p <ℤ q) ⊎ ((p ≡ q) × (l < k)))
below_by_ranks x y p q k l a b c d = (
  λ h. ranks_of_below x y p q k l (int_cmp p q) (int_ranks p q) a b c d h,
  λ s. elim s [
    | inl h ↦ record { worths = omega (arith, ints, a, b, h); counts = λ e. absurd (omega (arith, ints, a, b, h, e)) }
    | inr h ↦ record { worths = omega (arith, ints, a, b, h.0); counts = λ e. omega (arith, ints, c, d, h.1) }
  ],
)

-- with counts, sums are ordered as the sets are
pub counted_orders : (v : ℕ → ℤ) (e c : ℕ → Bool) (n : ℕ)
    → Below (group_sum counted_block v e n) (group_sum counted_block v c n) ↔ IsBefore v n e c
counted_orders v e c n = below_by_ranks _ _ _ _ _ _ (counted_told v e n) (counted_told v c n) (count_sum v e n)
    (count_sum v c n)

-- equal counts decide nothing
pub then_equal : (o : Ordering) → o ≡ ordering_then o Equal
then_equal Less = refl
then_equal o = refl

-- a kind with counts isn't one without
pub true_not_false : {P : Type 0} → true ≡ false → P
true_not_false h = absurd cc
