-- A block rests on no more blocks than it has offsets.
use Rattle.fixed_worth.proofs.Common.{◌≡◌, ◌≢◌, ℕ, zero, suc, ◌+◌, ◌<◌, ◌≤◌, ◌==◌, cond, List, length, get_or, sym, ap}
use Rattle.fixed_worth.proofs.Common.{◌∙◌, arith, nat_tests, get_or_default}
use Rattle.blocks_file.specs.Denotes.{BlocksView}
use Rattle.prec_file.specs.Prelude.{RestsView, first_of, above_of, AreNarrow}
use Rattle.prec_file.proofs.Finding.{above_at, above_rises}
use Rattle.slope_offsets.specs.declared.pattern.TheConstants.{MOST_OFFSETS}
use Rattle.slope_offsets.specs.Prelude.{Offset}
use Rattle.slope.specs.Prelude.{block_place, offset_between, IsOwnPair, AreOwnSlopes}
use Rattle.slope_offsets.specs.declared.up.Up.{Up}
use Rattle.slope_offsets.specs.declared.selection.Selection.{Selection}
use Rattle.slope.proofs.Finding.{one_place}
use Rattle.slope.proofs.PairSteps.{slope_of}

-- a number, with another in the place of k
moved : ℕ → ℕ → ℕ → ℕ
moved k last x = cond (x == k) last x

moved_below : (k last x : ℕ) → x < suc k → last < suc k → x ≢ last → moved k last x < k
unfolding moved
moved_below k last x a b c = grind (arith, nat_tests, a, b, c)

moved_apart : (k last x y : ℕ) → x ≢ y → x ≢ last → y ≢ last → moved k last x ≢ moved k last y
unfolding moved
moved_apart k last x y a b c = grind (arith, nat_tests, a, b, c)

-- n numbers below k of which no two are equal are at most k
pub at_most : (k n : ℕ) (f : (i : ℕ) → i < n → ℕ) → ((i : ℕ) (l : i < n) → f i l < k)
    → ((i j : ℕ) (l : i < n) (h : j < n) → i < j → f i l ≢ f j h) → n ≤ k
at_most k zero f below apart = omega arith
at_most zero (suc n) f below apart = absurd (let b = below 0 (omega arith) in omega (arith, b))
at_most (suc k) (suc n) f below apart =
    let up : (i : ℕ) → i < n → i < suc n = λ i l. omega (arith, l) in
    let here : n < suc n = omega arith in
    let last = f n here in
    let fewer = at_most k n (λ i l. moved k last (f i (up i l)))
    (λ i l. moved_below k last (f i (up i l)) (below i (up i l)) (below n here) (apart i n (up i l) here l))
    (λ i j l h r. moved_apart k last (f i (up i l)) (f j (up j h)) (apart i j (up i l) (up j h) r)
    (apart i n (up i l) here l) (apart j n (up j h) here h)) in
    omega (arith, fewer)

module _ (m : BlocksView) (own : ℕ → List Offset) (up : Up) (selection : Selection) (rests : RestsView)
    (s : AreOwnSlopes m own up selection rests) (b : ℕ) where
  above : ℕ → ℕ
  above i = get_or (above_of rests.pairs b) i 0

  pair_of : (i : ℕ) → i < length (above_of rests.pairs b) → IsOwnPair m own up (b, above i)
  unfolding above
  pair_of i l =
      let at = above_at rests.pairs s.rising b i l in
      slope_of selection m own up (b, above i)
      (s.only (b, above i) (
        first_of rests.pairs b + i,
        at.0,
        get_or_default rests.pairs
            (first_of rests.pairs b + i) (b, above i) (0, 0) at.0 ∙ at.1,
      ))

  -- no offset leads to two of them
  offsets_apart : (i j : ℕ) (l : i < length (above_of rests.pairs b)) (h : j < length (above_of rests.pairs b))
      → i < j → (pair_of i l).offset.0 ≢ (pair_of j h).offset.0
  unfolding above
  offsets_apart i j l h r e =
      let p = pair_of i l in
      let q = pair_of j h in
      let x = get_or_default (own b) p.offset.0 (offset_between up (block_place m b) (block_place m (above i)))
      (offset_between up (block_place m b) (block_place m (above j))) p.offset.1 in
      let same : offset_between up (block_place m b) (block_place m (above i)) ≡ offset_between up (block_place m b)
      (block_place m (above j)) =
      sym p.offset.2 ∙ x ∙ ap (λ k. get_or (own b) k (offset_between up (block_place m b) (block_place m (above j))))
      e ∙ q.offset.2 in
      s.apart (above i) (above j) (above_rises rests.pairs s.rising b i j r h) q.top
      (one_place up (block_place m b) (block_place m (above i)) (block_place m (above j)) same)

  pub above_most : length (above_of rests.pairs b) ≤ length (own b)
  above_most = at_most (length (own b)) (length (above_of rests.pairs b)) (λ i l. (pair_of i l).offset.0)
      (λ i l. (pair_of i l).offset.1) offsets_apart

pub slopes_narrow : (m : BlocksView) (own : ℕ → List Offset) (up : Up) (selection : Selection) (rests : RestsView)
    → ((b : ℕ) → length (own b) ≤ MOST_OFFSETS) → AreOwnSlopes m own up selection rests → AreNarrow rests
slopes_narrow m own up selection rests few s b l = omega (arith, above_most m own up selection rests s b, few b)
