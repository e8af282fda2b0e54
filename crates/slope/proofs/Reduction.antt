-- The pairs that lead over no third block make the same closed sets as every pair.
use Rattle.fixed_worth.proofs.Common.{◌↔◌, ℕ, zero, suc, ℤ, pos, negsuc, ◌+ℤ◌, ◌-ℤ◌, ◌≤ℤ◌, ◌<ℤ◌, Bool, IsTrue, List}
use Rattle.fixed_worth.proofs.Common.{All, Contains, arith, ints, All-contains, true_from_ne_false, common_steps}
use Rattle.blocks_file.specs.Denotes.{BlocksView}
use Rattle.prec_file.specs.Rests.{RestsView}
use Rattle.slope_offsets.specs.Prelude.{Offset, IsUpward}
use Rattle.slope.specs.Prelude.{block_place, IsClosedBy, upward, offset_between, IsOwnPair, LeadsOver, AreOwnSlopes}
use Rattle.slope_offsets.specs.declared.selection.Selection.TheVariants.{Reduced}
use Rattle.slope_offsets.specs.declared.up.Up.{Up}
use Rattle.slope_offsets.proofs.OffsetSorting.{not_both}

-- some natural number is no less
above : ℤ → ℕ
above (pos n) = n
above (negsuc n) = zero

is_above : (z : ℤ) → z ≤ℤ pos (above z)
unfolding above
is_above z = grind (arith, common_steps)

climbs : (up : Up) (x y : ℤ) → pos 1 ≤ℤ upward up (y -ℤ x) → upward up x <ℤ upward up y
climbs up x y h = grind (arith, common_steps)

module _ (m : BlocksView) (own : ℕ → List Offset) (up : Up) (rests : RestsView)
    (upward_all : (b : ℕ) → All IsUpward (own b)) (slopes : AreOwnSlopes m own up Reduced rests) where
  -- how high a block is
  height : ℕ → ℤ
  height b = upward up (block_place m b).z

  rises : (b p : ℕ) → IsOwnPair m own up (b, p) → height b <ℤ height p
  unfolding height
  rises b p s = climbs up (block_place m b).z (block_place m p).z
      (All-contains IsUpward (own b) (offset_between up (block_place m b) (block_place m p)) (upward_all b) s.offset)

  module _ (e : ℕ → Bool) (closed : IsClosedBy (Contains rests.pairs) e) where
    -- over pairs that rise by at most k
    closes_upto : (k b p : ℕ) → IsOwnPair m own up (b, p) → height p ≤ℤ (height b +ℤ pos k) → IsTrue (e b)
        → IsTrue (e p)
    closes_upto zero b p s low held = absurd (let r = rises b p s in omega (arith, ints, r, low))
    closes_upto (suc k) b p s low held = true_from_ne_false (e p) (λ off.
        let none : LeadsOver m own up (b, p) → ⊥ = (λ x.
        let first = rises b x.over x.first in
        let second = rises x.over p x.second in
        not_both (e p) (closes_upto k x.over p x.second (omega (arith, ints, low, first, second))
        (closes_upto k b x.over x.first (omega (arith, ints, low, first, second)) held)) off) in
        not_both (e p) (closed (b, p) (slopes.held (b, p) (s, none)) held) off)

    pub closed_by_every : IsClosedBy (IsOwnPair m own up) e
    closed_by_every q s held = closes_upto (above (height q.1 -ℤ height q.0)) q.0 q.1 s
        (omega (arith, ints, is_above (height q.1 -ℤ height q.0))) held

  pub closed_by_either : (e : ℕ → Bool) → IsClosedBy (Contains rests.pairs) e ↔ IsClosedBy (IsOwnPair m own up) e
  closed_by_either e = (λ c. closed_by_every e c, λ c q k. c q (slopes.only q k).0)
