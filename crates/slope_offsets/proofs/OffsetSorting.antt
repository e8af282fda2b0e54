-- Sorting offsets, and dropping repeats.
use Rattle.fixed_worth.proofs.Common.{◌≡◌, ℕ, zero, suc, ◌<◌, ◌<ℤ◌, ◌&&◌, Bool, true, false, List, [], ◌∷◌, length}
use Rattle.fixed_worth.proofs.Common.{get_or, sym, refl, subst, arith, Ordering, Less, MatchOrdering, ordering_then}
use Rattle.fixed_worth.proofs.Common.{int_cmp, int_eq, eq_by_cmp, IsTotalOrder, IsEquivalence, IsStrictlySortedBy}
use Rattle.fixed_worth.proofs.Common.{int_ranked, then_total, on_total, int_cmp_total, eq_by_cmp_equiv}
use Rattle.fixed_worth.proofs.Common.{All-from_recursion, common_steps}
use Rattle.slope_offsets.specs.Offsets.{Offset, AreOffsetsRising, OffsetBefore}

abbrev pub offset_cmp : Offset → Offset → Ordering
offset_cmp x y = ordering_then (ordering_then (int_cmp x.0 y.0) (int_cmp x.1 y.1)) (int_cmp x.2 y.2)

abbrev pub offset_eq : Offset → Offset → Bool
offset_eq x y = (int_eq x.0 y.0 && int_eq x.1 y.1) && int_eq x.2 y.2

pub offsets_total : IsTotalOrder offset_cmp
offsets_total = then_total
    (then_total (on_total (λ (o : Offset). o.0) int_cmp_total) (on_total (λ (o : Offset). o.1) int_cmp_total))
    (on_total (λ (o : Offset). o.2) int_cmp_total)

pub offset_ties : (x y : Offset) → offset_eq x y ≡ eq_by_cmp offset_cmp x y
offset_ties x y = grind (arith, common_steps)

pub offset_same : (x y : Offset) → offset_eq x y ≡ true → x ≡ y
offset_same x y h = grind (arith, common_steps)

pub not_both : (b : Bool) → b ≡ true → b ≡ false → ⊥
not_both b k e = grind (arith, common_steps)

pub offset_differs : (x y : Offset) → offset_eq x y ≡ false → x ≡ y → ⊥
offset_differs x y h e = grind (arith, common_steps)

pub offsets_alike : IsEquivalence offset_eq
offsets_alike =
    let e : eq_by_cmp offset_cmp ≡ offset_eq = λ i x y. (sym (offset_ties x y)) i in
    let P : (Offset → Offset → Bool) → Type 0 = λ f. IsEquivalence f in
    subst P e (eq_by_cmp_equiv offsets_total)

less_before : (x y : Offset) (o p q : Ordering) → MatchOrdering o (x.0 <ℤ y.0) (x.0 ≡ y.0) (y.0 <ℤ x.0)
    → MatchOrdering p (x.1 <ℤ y.1) (x.1 ≡ y.1) (y.1 <ℤ x.1) → MatchOrdering q (x.2 <ℤ y.2) (x.2 ≡ y.2) (y.2 <ℤ x.2)
    → ordering_then (ordering_then o p) q ≡ Less → OffsetBefore x y
less_before x y o p q h k l e = grind (arith, common_steps)

pub before : (x y : Offset) → offset_cmp x y ≡ Less → OffsetBefore x y
before x y e = less_before x y (int_cmp x.0 y.0) (int_cmp x.1 y.1) (int_cmp x.2 y.2) (int_ranked x.0 y.0 _ refl)
    (int_ranked x.1 y.1 _ refl) (int_ranked x.2 y.2 _ refl) e

rises : (os : List Offset) → IsStrictlySortedBy offset_cmp os → (i j : ℕ) (d : Offset) → i < j → j < length os
    → OffsetBefore (get_or os i d) (get_or os j d)
unfolding IsStrictlySortedBy
rises [] s i j d h l = absurd (omega arith)
rises (o ∷ os) s i zero d h l = absurd (omega arith)
rises (o ∷ os) s zero (suc j) d h l = before o (get_or os j d)
    (All-from_recursion (λ y. offset_cmp o y ≡ Less) os s.0 j d (omega arith))
rises (o ∷ os) s (suc i) (suc j) d h l = rises os s.1 i j d (omega arith) (omega arith)

pub rising_from_sorted : (os : List Offset) → IsStrictlySortedBy offset_cmp os → AreOffsetsRising os
rising_from_sorted os s = record { rises = rises os s }

-- offsets go one way
pub before_itself : (x : Offset) → OffsetBefore x x → ⊥
before_itself x h = grind (arith, common_steps)

pub before_trans : (x y z : Offset) → OffsetBefore x y → OffsetBefore y z → OffsetBefore x z
before_trans x y z h k = grind (arith, common_steps)
