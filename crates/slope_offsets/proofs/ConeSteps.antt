-- The steps in which a cone is gathered.
use Rattle.fixed_worth.proofs.Common.{◌≡◌, ℕ, ◌+◌, ◌*◌, ◌≤◌, ◌⊎◌, inl, inr, ℤ, pos, ◌+ℤ◌, ◌-ℤ◌, ◌<ℤ◌, List, [], ◌∷◌}
use Rattle.fixed_worth.proofs.Common.{◌++◌, length, refl, ap, arith, ints, by_lt_z, common_steps}
use Rattle.slope_offsets.specs.declared.pattern.TheConstants.{MOST_OFFSETS}
use Rattle.slope_offsets.specs.Prelude.{AreMoreThan, Offset, IsNear, IsInCone, ConeFaultStands, Collects, IsLevel}
use Rattle.slope_offsets.specs.Prelude.{IsBelowLevel, IsBelowRow, IsBelowPoint, OffsetRefusalStands}
use Rattle.slope_offsets.specs.declared.pattern_fault.PatternFault.{PatternFault}
use Rattle.slope_offsets.proofs.Gathering.{collected_same, collected_more, too_many}
use Rattle.slope_offsets.proofs.Distances.{near_first, near_second}

int_cases : (x y : ℤ) → x <ℤ (y +ℤ pos 1) → (x <ℤ y) ⊎ (x ≡ y)
int_cases x y h = by_lt_z x y (λ l. inl l) (λ g. inr (omega (arith, ints, h, g)))

module _ (k reach run rise : ℕ) (l : IsLevel k reach run rise) (os : List Offset) where
  pub level_begun : (x : ℤ) → x ≡ pos 0 -ℤ pos reach → Collects (IsBelowLevel run rise (pos k)) os
      → Collects (IsBelowRow run rise (pos k) x) os
  level_begun x e c = collected_same _ _ os c
      (λ o h. record { above = h.above; near = h.near; below = inl h.below })
      (λ o h. record {
        above = h.above;
        near = h.near;
        below = elim h.below [
          | inl b ↦ b
          | inr p ↦ let n = near_first k reach run rise o l h.near p.0 in absurd (omega (arith, ints, p.1, e, n))
        ];
      })

  pub row_begun : (x y : ℤ) → y ≡ pos 0 -ℤ pos reach → Collects (IsBelowRow run rise (pos k) x) os
      → Collects (IsBelowPoint run rise (pos k) x y) os
  row_begun x y e c = collected_same _ _ os c
      (λ o h. record {
        above = h.above;
        near = h.near;
        below = elim h.below
            [ inl b ↦ inl b | inr p ↦ inr (p.0, inl p.1) ];
      })
      (λ o h. record {
        above = h.above;
        near = h.near;
        below = elim h.below [
          | inl b ↦ inl b
          | inr p ↦ elim (p.1) [
            | inl b ↦ inr (p.0, b)
            | inr q ↦ let n = near_second k reach run rise o l h.near p.0 in absurd (omega (arith, ints, q.1, e, n))
          ]
        ];
      })

  pub row_ended : (x y z : ℤ) → y ≡ pos (2 * reach + 1) -ℤ pos reach → z ≡ x +ℤ pos 1
      → Collects (IsBelowPoint run rise (pos k) x y) os → Collects (IsBelowRow run rise (pos k) z) os
  row_ended x y z e f c = collected_same _ _ os c
      (λ o h. record {
        above = h.above;
        near = h.near;
        below = elim h.below [
          | inl b ↦ inl b
          | inr p ↦ elim (p.1) [
            | inl b ↦ inr (p.0, omega (arith, ints, b, f))
            | inr q ↦ inr
                (p.0, omega (arith, ints, ap (λ t. t -ℤ x) q.0, f))
          ]
        ];
      })
      (λ o h. record {
        above = h.above;
        near = h.near;
        below = elim h.below [
          | inl b ↦ inl b
          | inr p ↦
              let n = near_second k reach run rise o l h.near p.0 in
              elim (int_cases o.0 x (omega (arith, ints, p.1, f)))
              [ inl b ↦ inr (p.0, inl b) | inr q ↦ inr (p.0, inr (q, omega (arith, ints, n, e))) ]
        ];
      })

  pub level_ended : (x : ℤ) → x ≡ pos (2 * reach + 1) -ℤ pos reach → Collects (IsBelowRow run rise (pos k) x) os
      → Collects (IsBelowLevel run rise (pos (k + 1))) os
  level_ended x e c = collected_same _ _ os c
      (λ o h. record {
        above = h.above;
        near = h.near;
        below = elim h.below
            [ inl b ↦ omega (arith, ints, b) | inr p ↦ let q = p.0 in omega (arith, ints, q) ];
      })
      (λ o h. record {
        above = h.above;
        near = h.near;
        below =
            elim (int_cases o.2 (pos k) (let b = h.below in omega (arith, ints, b))) [
              | inl b ↦ inl b
              | inr q ↦ let n = near_first k reach run rise o l h.near q in inr (q, omega (arith, ints, n, e))
            ];
      })

module _ (run rise k : ℕ) (x y : ℤ) (os : List Offset) (c : Collects (IsBelowPoint run rise (pos k) x y) os) where
  -- the point itself isn't below itself
  not_yet : IsBelowPoint run rise (pos k) x y (x, y, pos k) → ⊥
  not_yet h = grind (arith, common_steps)

  still : (z : ℤ) → z ≡ y +ℤ pos 1 → (o : Offset) → IsBelowPoint run rise (pos k) x y o
      → IsBelowPoint run rise (pos k) x z o
  still z e o h = grind (arith, common_steps)

  before_or_here : (z : ℤ) → z ≡ y +ℤ pos 1 → (o : Offset) → IsBelowPoint run rise (pos k) x z o
      → IsBelowPoint run rise (pos k) x y o ⊎ ((x, y, pos k) ≡ o)
  before_or_here z e o h = grind (arith, common_steps)

  pub point_taken : (z : ℤ) → z ≡ y +ℤ pos 1 → 1 ≤ k → IsNear run rise (x, y, pos k)
      → Collects (IsBelowPoint run rise (pos k) x z) (os ++ (x, y, pos k) ∷ [])
  point_taken z e s n = collected_more _ _ os c (x, y, pos k) not_yet
      (record { above = omega (arith, ints, s); near = n; below = inr (refl, inr (refl, omega (arith, ints, e))) })
      (still z e) (before_or_here z e)

  pub point_passed : (z : ℤ) → z ≡ y +ℤ pos 1 → (IsNear run rise (x, y, pos k) → ⊥)
      → Collects (IsBelowPoint run rise (pos k) x z) os
  point_passed z e n = grind (arith, common_steps)

  pub points_full : 1 ≤ k → IsNear run rise (x, y, pos k) → MOST_OFFSETS ≤ length os
      → AreMoreThan MOST_OFFSETS (IsInCone k run rise)
  points_full s n m = too_many _ _ os c MOST_OFFSETS (x, y, pos k) not_yet
      (record { above = omega (arith, ints, s); within = omega (arith, ints); near = n })
      (λ o h. record {
        above = h.above;
        near = h.near;
        within = elim h.below
            [ inl b ↦ omega (arith, ints, b) | inr p ↦ let q = p.0 in omega (arith, ints, q) ];
      })
      m

  -- why an offset that is near enough wasn't added
  pub refused : (e : PatternFault) → 1 ≤ k → IsNear run rise (x, y, pos k) → OffsetRefusalStands os e
      → ConeFaultStands k run rise e
  refused e s n h = grind (arith, common_steps, points_full)

pub cone_ended : (levels run rise : ℕ) (os : List Offset) → Collects (IsBelowLevel run rise (pos (levels + 1))) os
    → Collects (IsInCone levels run rise) os
cone_ended levels run rise os c = collected_same _ _ os c
    (λ o h. let b = h.below in record { above = h.above; near = h.near; within = omega (arith, ints, b) })
    (λ o h. let b = h.within in record { above = h.above; near = h.near; below = omega (arith, ints, b) })

pub cone_wider : (k levels run rise : ℕ) (e : PatternFault) → k ≤ levels → ConeFaultStands k run rise e
    → ConeFaultStands levels run rise e
cone_wider k levels run rise e l h = grind (arith, common_steps)
