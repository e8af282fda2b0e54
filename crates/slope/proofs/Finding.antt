-- Finding blocks by their places.
use Rattle.fixed_worth.proofs.Common.{◌≡◌, ◌≢◌, ℕ, ◌<◌, inl, inr, ℤ, ◌+ℤ◌, ◌-ℤ◌, List, length, get_or, Err, sym, ap}
use Rattle.fixed_worth.proofs.Common.{subst, ◌∙◌, arith, cases_order, get_or_default, ints, common_steps}
use Rattle.blocks_file.specs.declared.place.Place.{Place}
use Rattle.blocks_file.specs.Denotes.{BlocksView}
use Rattle.slope.specs.Prelude.{block_place, AreApartBelow, upward, offset_between, place_key, IsIndex, IsFinding}
use Rattle.slope_offsets.specs.Prelude.{Offset, OffsetBefore, AreOffsetsRising}
use Rattle.slope_offsets.specs.declared.up.Up.{Up}
use Rattle.slope_offsets.proofs.OffsetSorting.{before_itself}

-- places of one key are one place
pub key_same : (p q : Place) → place_key p ≡ place_key q → p ≡ q
key_same p q e = grind (arith, common_steps)

-- a key stands at one place of keys that rise
one_key : (keys : List Offset) (i j : ℕ) (d : Offset) → AreOffsetsRising keys → i < length keys → j < length keys
    → get_or keys i d ≡ get_or keys j d → i ≡ j
one_key keys i j d r k l e = elim (cases_order i j) [
  | inl same ↦ same
  | inr w ↦ elim w [
    | inl below ↦ absurd (before_itself (get_or keys j d)
        (subst (λ x. OffsetBefore x (get_or keys j d)) e (r.rises i j d below l)))
    | inr above ↦ absurd (before_itself (get_or keys j d)
        (subst (OffsetBefore (get_or keys j d)) e (r.rises j i d above k)))
  ]
]

-- blocks that an index finds have places of their own
pub places_apart : (m : BlocksView) (keys : List Offset) (blocks : List ℕ) → IsIndex m keys blocks
    → AreApartBelow m m.blocks
places_apart m keys blocks h i j l r e =
    let p = h.finds i (omega (arith, l, r)) in
    let q = h.finds j r in
    let d = place_key (block_place m i) in
    let kp = sym (h.stands p.0 d 0 p.1).1 ∙ ap (λ b. place_key (block_place m b)) (p.2 0) in
    let kq = sym (h.stands q.0 d 0 q.1).1 ∙ ap (λ b. place_key (block_place m b)) (q.2 0) in
    let s = one_key keys p.0 q.0 d h.rising p.1 q.1 (kp ∙ ap place_key e ∙ sym kq) in
    let same : i ≡ j = sym (p.2 0) ∙ ap (λ k. get_or blocks k 0) s ∙ q.2 0 in
    omega (arith, same, l)

pub same_height : (up : Up) (x y : ℤ) → upward up x ≡ upward up y → x ≡ y
same_height up x y e = grind (arith, common_steps)

-- two places at one offset are one place
pub one_place : (up : Up) (from p q : Place) → offset_between up from p ≡ offset_between up from q → p ≡ q
one_place up from p q e =
    let ex = ap (λ (o : Offset). o.0) e in
    let ey = ap (λ (o : Offset). o.1) e in
    let ez = same_height up (p.z -ℤ from.z) (q.z -ℤ from.z) (ap (λ (o : Offset). o.2) e) in
    let a : p.x ≡ q.x = omega (arith, ints, ex) in
    let b : p.y ≡ q.y = omega (arith, ints, ey) in
    let d : p.z ≡ q.z = omega (arith, ints, ez) in
    λ i. record { x = a i; y = b i; z = d i }

-- no block is at the place of a key that isn't there
pub none_at : (m : BlocksView) (keys : List Offset) (blocks : List ℕ) (up : Up) (from to : Place) (offset : Offset)
    → IsIndex m keys blocks → offset_between up from to ≡ offset → (i : ℕ) → IsFinding keys (place_key to) (Err i) →
    (p : ℕ) → p < m.blocks → offset_between up from (block_place m p) ≢ offset
none_at m keys blocks up from to offset h at i f p l e =
    let same = one_place up from to (block_place m p) (at ∙ sym e) in
    let q = h.finds p l in
    let key = sym (h.stands q.0 (place_key to) 0 q.1).1 ∙ ap (λ b. place_key (block_place m b)) (q.2 0)
    ∙ ap place_key (sym same) in
    f.1 (q.0, q.1, get_or_default keys q.0 (place_key to) (place_key to) q.1 ∙ key)

module _ (up : Up) (from to : Place) (offset : Offset) (e : offset_between up from to ≡ offset) where
  pub first_of : from.x +ℤ offset.0 ≡ to.x
  first_of = let d = ap (λ (o : Offset). o.0) e in omega (arith, ints, d)

  pub second_of : from.y +ℤ offset.1 ≡ to.y
  second_of = let d = ap (λ (o : Offset). o.1) e in omega (arith, ints, d)

  pub height_of : (h : ℤ) → upward up h ≡ offset.2 → from.z +ℤ h ≡ to.z
  height_of h g = let d = same_height up (to.z -ℤ from.z) h (ap (λ (o : Offset). o.2) e ∙ sym g) in omega
      (arith, ints, d)

-- the place whose coordinates are moved by an offset is at that offset
pub at_place : (up : Up) (from to : Place) (offset : Offset) (h : ℤ) → upward up h ≡ offset.2
    → from.x +ℤ offset.0 ≡ to.x → from.y +ℤ offset.1 ≡ to.y → from.z +ℤ h ≡ to.z → offset_between up from to ≡ offset
at_place up from to offset h g ex ey ez =
    let a : to.x -ℤ from.x ≡ offset.0 = omega (arith, ints, ex) in
    let b : to.y -ℤ from.y ≡ offset.1 = omega (arith, ints, ey) in
    let d : to.z -ℤ from.z ≡ h = omega (arith, ints, ez) in
    let f = ap (upward up) d ∙ g in
    λ i. (a i, b i, f i)
