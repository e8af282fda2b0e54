-- Proofs of the laws of worth and size in one number, which its implementation cites.
use Rattle.std.proofs.Common.{◌≡◌, ◌↔◌, ℕ, zero, suc, ◌+◌, ◌-◌, ◌*◌, ◌/◌, ◌^◌, ◌<◌, ◌≤◌, Bool, true, false, cond, refl}
use Rattle.std.proofs.Common.{sym, ap, ◌∙◌, arith, ℤ, pos, negsuc, ◌+ℤ◌, ◌-ℤ◌, ◌*ℤ◌, ◌≤ℤ◌, ◌<ℤ◌, ◌⊎◌, inl, inr}
use Rattle.std.proofs.Common.{FitsSigned, Ordering, add-one}
use Rattle.std.specs.declared.cmp.Ordering.TheVariants.{Less, Equal, Greater}
use Rattle.std.specs.Int.{w128, int_div_euclid}
use Rattle.std.specs.Ordering.{MatchOrdering, int_cmp}
use Rattle.std.specs.Cmp.{int_ranks}
use Rattle.std.proofs.lemmas.Int.{ints}
use Rattle.std.proofs.lemmas.Nat.{div_below, div-mul-add}
use Rattle.std.proofs.Math.IntN.{suc_ℤ, suc_ℤ-*ℤ, zero-*ℤ}
use Rattle.ordered_group.specs.Amount.{Amount, plus, Below, FitsPair}
use Rattle.ordered_group.specs.Sums.{total, where_so}
use Rattle.ordered_group.specs.Sets.{worth_in, count_in, group_sum, IsBefore}
use Rattle.ordered_group.specs.Block.{scaled_block, scaled_worth}

-- Products of whole numbers, of which the second isn't negative.
next_is : (z : ℤ) → suc_ℤ z ≡ z +ℤ pos 1
next_is (pos n) = ap pos (sym (add-one n))
next_is (negsuc zero) = refl
next_is (negsuc (suc n)) = let e : negsuc n ≡ negsuc (suc n) +ℤ pos 1 = omega (arith, ints) in e

more_times : (y : ℤ) (d : ℕ) (s : ℤ) → (y +ℤ pos d) *ℤ s ≡ (y *ℤ s) +ℤ (pos d *ℤ s)
more_times y zero s =
    let e : y +ℤ pos 0 ≡ y = omega (arith, ints) in
    let f : y *ℤ s ≡ (y *ℤ s) +ℤ pos 0 = omega (arith, ints) in
    rw (e, zero-*ℤ s) f
more_times y (suc d) s =
    let e : y +ℤ pos (suc d) ≡ suc_ℤ (y +ℤ pos d) = omega (arith, ints, next_is (y +ℤ pos d)) in
    let f : pos (suc d) ≡ suc_ℤ (pos d) = refl in
    rw (e, f, suc_ℤ-*ℤ (y +ℤ pos d) s, suc_ℤ-*ℤ (pos d) s) (let i = more_times y d s in omega (arith, ints, i))

-- a sum times s is the sum of the products
pub sum_times : (y v : ℤ) (s : ℕ) → (y +ℤ v) *ℤ pos s ≡ (y *ℤ pos s) +ℤ (v *ℤ pos s)
sum_times y (pos d) s = more_times y d (pos s)
sum_times y (negsuc d) s =
    let back : y ≡ (y +ℤ negsuc d) +ℤ pos (suc d) = omega (arith, ints) in
    let f = ap (λ (x : ℤ). x *ℤ pos s) back ∙ more_times (y +ℤ negsuc d) (suc d) (pos s) in
    omega (arith, ints, f)

above_zero : (z : ℤ) → pos 0 <ℤ z → (d : ℕ) × (z ≡ pos (d + 1))
above_zero (pos zero) h = absurd (omega (arith, ints, h))
above_zero (pos (suc m)) h = (m, ap pos (sym (add-one m)))
above_zero (negsuc m) h = absurd (omega (arith, ints, h))

-- more worth outweighs any number of blocks up to n
outweighs : (n : ℕ) (p q : ℤ) (k l : ℕ) → l ≤ n → p <ℤ q
    → ((p *ℤ pos (n + 1)) -ℤ pos k) <ℤ ((q *ℤ pos (n + 1)) -ℤ pos l)
outweighs n p q k l h i =
    let z = above_zero (q -ℤ p) (omega (arith, ints, i)) in
    let e : q ≡ p +ℤ pos (z.0 + 1) = omega (arith, ints, z.1) in
    let f = ap (λ (x : ℤ). x *ℤ pos (n + 1)) e ∙ more_times p (z.0 + 1) (pos (n + 1)) in
    omega (arith, ints, f, h)

-- The sum of a set is its worth times n + 1, less the number of its blocks.
units_step : (x : Amount) (t : Bool) (v y : ℤ) (k s : ℕ) → x.w +ℤ pos k ≡ y *ℤ pos s
    → (plus x (where_so t (record { w = (v *ℤ pos s) -ℤ pos 1; c = pos 0 }))).w +ℤ pos (k + cond t 1 0)
    ≡ (y +ℤ cond t v (pos 0)) *ℤ pos s
units_step x true v y k s h = omega (arith, ints, h, sum_times y v s)
units_step x false v y k s h = omega
    (arith, ints, h, ap (λ (z : ℤ). z *ℤ pos s) (let e : y +ℤ pos 0 ≡ y = omega (arith, ints) in e))

units_sum : (s : ℕ) (v : ℕ → ℤ) (e : ℕ → Bool) (n : ℕ)
    → (total (λ b. where_so (e b) (record { w = (v b *ℤ pos s) -ℤ pos 1; c = pos 0 })) n).w +ℤ pos (count_in e n)
    ≡ worth_in v e n *ℤ pos s
units_sum s v e zero = sym (zero-*ℤ (pos s))
units_sum s v e (suc n) =
    units_step (total (λ b. where_so (e b) (record { w = (v b *ℤ pos s) -ℤ pos 1; c = pos 0 })) n) (e n) (v n)
    (worth_in v e n) (count_in e n) s (units_sum s v e n)

no_count_step : (x : Amount) (t : Bool) (v : ℤ) → x.c ≡ pos 0 → (plus x (where_so t (record { w = v; c = pos 0 }))).c
    ≡ pos 0
no_count_step x true v h = omega (arith, ints, h)
no_count_step x false v h = omega (arith, ints, h)

no_count : (v : ℕ → ℤ) (e : ℕ → Bool) (n : ℕ) → (total (λ b. where_so (e b) (record { w = v b; c = pos 0 })) n).c
    ≡ pos 0
no_count v e zero = refl
no_count v e (suc n) = no_count_step (total (λ b. where_so (e b) (record { w = v b; c = pos 0 })) n) (e n) (v n)
    (no_count v e n)

-- The quotient of a multiple.
quotient_of : (w : ℤ) (n : ℕ) → int_div_euclid (w *ℤ pos (n + 1)) (pos (n + 1)) ≡ w
quotient_of (pos a) n = let e : a * (n + 1) ≡ a * (n + 1) + 0 = omega arith in ap (λ (k : ℕ). pos (k / (n + 1))) e
    ∙ ap pos (div-mul-add a (n + 1) 0 (omega arith))
quotient_of (negsuc a) n =
    let e : negsuc a *ℤ pos (n + 1) ≡ negsuc (a * (n + 1) + n) = omega (arith, ints) in
    ap (λ (z : ℤ). int_div_euclid z (pos (n + 1))) e ∙ ap negsuc (div-mul-add a (n + 1) n (omega arith))

-- the sum of a set tells its worth
pub scaled_told : (v : ℕ → ℤ) (e : ℕ → Bool) (n : ℕ) → scaled_worth (group_sum scaled_block v e n) n (count_in e n)
    ≡ worth_in v e n
scaled_told v e n = ap (λ (z : ℤ). int_div_euclid z (pos (n + 1))) (units_sum (n + 1) v e n)
    ∙ quotient_of (worth_in v e n) n

-- The worth of a set fits where its sum does.
fits_down : (z : ℤ) (n : ℕ) → negsuc (2 ^ 127 - 1) ≤ℤ z → z <ℤ pos (2 ^ 127 + n)
    → FitsSigned w128 (int_div_euclid z (pos (n + 1)))
fits_down (pos y) n l h = omega (arith, ints, div_below y (n + 1) (2 ^ 127) (omega arith) (omega (arith, ints, h)))
fits_down (negsuc y) n l h = omega (arith, ints, div_below y (n + 1) (2 ^ 127) (omega arith) (omega (arith, ints, l)))

pub scaled_fits : (a : Amount) (n count : ℕ) → FitsPair a → count ≤ n → FitsSigned w128 (scaled_worth a n count)
scaled_fits a n count f h = fits_down (a.w +ℤ pos count) n (omega (arith, ints, f.0)) (omega (arith, ints, f.0, h))

-- Sums are ordered as the sets are.
one_or_none : (t : Bool) → cond t 1 0 ≤ 1
one_or_none true = omega arith
one_or_none false = omega arith

-- no set has more blocks than there are
pub count_in-most : (e : ℕ → Bool) (n : ℕ) → count_in e n ≤ n
count_in-most e zero = omega arith
count_in-most e (suc n) = omega (arith, count_in-most e n, one_or_none (e n))

strictly : (x y : Amount) (o : Ordering) → MatchOrdering o (x.w <ℤ y.w) (x.w ≡ y.w) (y.w <ℤ x.w) → x.c ≡ y.c
    → Below x y → x.w <ℤ y.w
strictly x y Less r c h = r
strictly x y Equal r c h = absurd (omega (arith, ints, c, h.counts r))
strictly x y Greater r c h = absurd (omega (arith, ints, r, h.worths))

module _ (x y : Amount) (p q : ℤ) (k l n : ℕ) (a : x.w +ℤ pos k ≡ p *ℤ pos (n + 1))
    (b : y.w +ℤ pos l ≡ q *ℤ pos (n + 1)) (c : x.c ≡ y.c) (m : k ≤ n) (o : l ≤ n) where
  ranks_of_below : (r : Ordering) → MatchOrdering r (p <ℤ q) (p ≡ q) (q <ℤ p) → x.w <ℤ y.w → (p <ℤ q)
      ⊎ ((p ≡ q) × (l < k))
  ranks_of_below Less r h = inl r
  ranks_of_below Equal r h = inr (r, omega (arith, ints, a, b, h, ap (λ (z : ℤ). z *ℤ pos (n + 1)) r))
  ranks_of_below Greater r h = absurd (omega (arith, ints, a, b, h, outweighs n q p l k m r))

  below_from : (p <ℤ q) ⊎ ((p ≡ q) × (l < k)) → x.w <ℤ y.w
  below_from (inl h) = omega (arith, ints, a, b, outweighs n p q k l o h)
  below_from (inr h) = omega (arith, ints, a, b, h.1, ap (λ (z : ℤ). z *ℤ pos (n + 1)) h.0)

  below_by_ranks : Below x y ↔ ((p <ℤ q) ⊎ ((p ≡ q) × (l < k)))
  below_by_ranks = (
    λ h. ranks_of_below (int_cmp p q) (int_ranks p q) (strictly x y (int_cmp x.w y.w) (int_ranks x.w y.w) c h),
    λ s. let h = below_from s in record
        { worths = omega (arith, ints, h); counts = λ e. absurd (omega (arith, ints, h, e)) },
  )

pub scaled_orders : (v : ℕ → ℤ) (e c : ℕ → Bool) (n : ℕ)
    → Below (group_sum scaled_block v e n) (group_sum scaled_block v c n) ↔ IsBefore v n e c
scaled_orders v e c n =
    below_by_ranks (group_sum scaled_block v e n) (group_sum scaled_block v c n) (worth_in v e n) (worth_in v c n)
    (count_in e n) (count_in c n) n
    (units_sum (n + 1) v e n) (units_sum (n + 1) v c n)
    (no_count (λ b. (v b *ℤ pos (n + 1)) -ℤ pos 1) e n ∙ sym (no_count (λ b. (v b *ℤ pos (n + 1)) -ℤ pos 1) c n))
    (count_in-most e n) (count_in-most c n)
