-- Who rests on whom by the slopes of regions, as a test; and that no fault stands where there are pairs.
use Rattle.fixed_worth.proofs.Common.{◌≡◌, ◌↔◌, ℕ, ◌<◌, ◌≤◌, true, IsTrue, List, length, get_or, refl, ap, sym, ◌∙◌}
use Rattle.fixed_worth.proofs.Common.{arith, Contains, and_parts, and_from, lt-ltb, ltb-true, list_any}
use Rattle.fixed_worth.proofs.Common.{list_any-from_Any, Any-from_list_any, Decides-int_eq, get_or_default}
use Rattle.blocks_file.specs.Denotes.{BlocksView}
use Rattle.prec_file.specs.Prelude.{RestsView}
use Rattle.prec_file.specs.declared.limits.TheConstants.{MOST_PAIRS}
use Rattle.slope_offsets.specs.Prelude.{AreMoreThan, Offset}
use Rattle.slope.specs.Prelude.{AreOwnSlopes, IsOwnPair, IsSelected, is_offset, offset_between, own_offsets}
use Rattle.slope.specs.Prelude.{block_place, rests_by_slopes}
use Rattle.slope_offsets.specs.declared.selection.Selection.{Selection}
use Rattle.slope_offsets.specs.declared.selection.Selection.TheVariants.{Every}
use Rattle.slope_offsets.specs.declared.up.Up.{Up}
use Rattle.slope.proofs.Narrow.{at_most}

same_offset : (o q : Offset) → q ≡ o → is_offset o q ≡ true
same_offset o q e =
    and_from _ _ ((Decides-int_eq q.0 o.0).1 (ap (λ (x : Offset). x.0) e))
    (and_from _ _ ((Decides-int_eq q.1 o.1).1 (ap (λ (x : Offset). x.1) e))
    ((Decides-int_eq q.2 o.2).1 (ap (λ (x : Offset). x.2) e)))

offset_same : (o q : Offset) → is_offset o q ≡ true → q ≡ o
offset_same o q t =
    let first = and_parts _ _ t in
    let rest = and_parts _ _ first.1 in
    let a : q.0 ≡ o.0 = (Decides-int_eq q.0 o.0).0 first.0 in
    let b : q.1 ≡ o.1 = (Decides-int_eq q.1 o.1).0 rest.0 in
    let c : q.2 ≡ o.2 = (Decides-int_eq q.2 o.2).0 rest.1 in
    λ i. (a i, b i, c i)

listed_offset : (offsets : List Offset) (o : Offset) → Contains offsets o → list_any (is_offset o) offsets ≡ true
listed_offset offsets o c = list_any-from_Any (is_offset o) offsets (c.0, o, c.1, c.2, same_offset o o refl)

offset_listed : (offsets : List Offset) (o : Offset) → list_any (is_offset o) offsets ≡ true → Contains offsets o
offset_listed offsets o t =
    let a = Any-from_list_any (is_offset o) offsets t in
    (a.0, a.2, get_or_default offsets a.0 o a.1 a.2 ∙ a.3 ∙ offset_same o a.1 a.4)

-- the test tells the pairs of each block's own offsets
module _ (listed : List (List Offset)) (m : BlocksView) (up : Up) (b p : ℕ) where
  pub pair_tested : IsOwnPair m (own_offsets listed m) up (b, p) → IsTrue (rests_by_slopes listed m up b p)
  pair_tested h =
      and_from _ _ (and_from _ _ (lt-ltb b m.blocks h.bottom) (lt-ltb p m.blocks h.top))
      (listed_offset (own_offsets listed m b) (offset_between up (block_place m b) (block_place m p)) h.offset)

  pub tested_pair : IsTrue (rests_by_slopes listed m up b p) → IsOwnPair m (own_offsets listed m) up (b, p)
  tested_pair t =
      let first = and_parts _ _ t in
      let blocks = and_parts _ _ first.0 in
      record {
        bottom = ltb-true b m.blocks blocks.0;
        top = ltb-true p m.blocks blocks.1;
        offset = offset_listed (own_offsets listed m b) (offset_between up (block_place m b) (block_place m p)) first.1;
      }

-- every pair in order is one of the test's
pub pairs_tested : (listed : List (List Offset)) (m : BlocksView) (up : Up) (rests : RestsView)
    → AreOwnSlopes m (own_offsets listed m) up Every rests → (b p : ℕ)
    → Contains rests.pairs (b, p) ↔ IsTrue (rests_by_slopes listed m up b p)
pairs_tested listed m up rests s b p =
    (λ c. pair_tested listed m up b p (s.only (b, p) c), λ t. s.held (b, p) (tested_pair listed m up b p t))

-- where all that are selected are listed, they aren't more than the list has
pub not_more : (m : BlocksView) (own : ℕ → List Offset) (up : Up) (selection : Selection) (rests : RestsView)
    → AreOwnSlopes m own up selection rests → length rests.pairs ≤ MOST_PAIRS
    → AreMoreThan MOST_PAIRS (IsSelected selection m own up) → ⊥
not_more m own up selection rests s most more =
    let held : (i : ℕ) → i < length more.some → Contains rests.pairs (get_or more.some i (0, 0)) = λ i l. s.held
    (get_or more.some i (0, 0)) (more.all i (0, 0) l) in
    let few = at_most (length rests.pairs) (length more.some) (λ i l. (held i l).0) (λ i l. (held i l).1)
    (λ i j l h r e.
    let x = held i l in
    let y = held j h in
    more.apart i j (0, 0) r h
    (sym x.2 ∙ get_or_default rests.pairs x.0 (get_or more.some i (0, 0)) (get_or more.some j (0, 0)) x.1
    ∙ ap (λ k. get_or rests.pairs k (get_or more.some j (0, 0))) e ∙ y.2)) in
    omega (arith, few, more.more, most)
