-- The ways of a node lead to just the nodes that it rests on.
use Rattle.fixed_worth.proofs.Common.{◌≡◌, ℕ, ◌+◌, ◌-◌, ◌*◌, ◌/◌, ◌%◌, ◌<◌, ◌≤◌, Bool, true, false, cond, ◌&&◌, ◌||◌}
use Rattle.fixed_worth.proofs.Common.{◌==◌, nat_lt, IsTrue, Option, None, Some, inl, inr, refl, sym, ap, subst, ◌∙◌}
use Rattle.fixed_worth.proofs.Common.{arith, and_parts, and_from, or_cases, or_left, or_right, cases_lt, cases_eq}
use Rattle.fixed_worth.proofs.Common.{eq-eqb, eqb-true, ne_eqb, ltb-true, lt-ltb, le-ltb, div-mul-add, div-add-mod'}
use Rattle.fixed_worth.proofs.Common.{mul-le, same_Some, IfSome}
use Rattle.std.proofs.lemmas.Nat.{mod-mul-add, mod_below, div_below, mul-add-lt}
use Rattle.places.specs.Prelude.{IsPrecedence, WayLeads, TimedView, AreNodes, in_time, next_node, lagged_node}
use Rattle.places.specs.Prelude.{node_count, node_from, own_ways, rests_by_lag, rests_in_period, rests_in_time}

-- where there are nodes there are blocks
pub some_blocks : (n periods j : ℕ) → j < periods * n → 0 < n
some_blocks n periods j l = elim (cases_lt 0 n) [
  | inl h ↦ h
  | inr h ↦ let none : n ≡ 0 = omega (arith, h) in let e = ap (λ k. periods * k) none in absurd (omega (arith, l, e))
]

-- a node that was found is a block's
pub from_some : (first : ℕ) (o : Option ℕ) (j : ℕ) → node_from first o ≡ Some j → (p : ℕ) × (o ≡ Some p)
    × (first + p ≡ j)
from_some first None j e = absurd cc
from_some first (Some p) j e = (p, refl, same_Some (first + p) j e)

-- one of two by a test
pub chosen : {A : Type 0} (t : Bool) (x y : A) → t ≡ true → cond t x y ≡ x
chosen t x y e = rw e refl

pub other : {A : Type 0} (t : Bool) (x y : A) → t ≡ false → cond t x y ≡ y
other t x y e = rw e refl

-- of two by a test, the one that is something is chosen
pub some_chosen : (t : Bool) (x : Option ℕ) (j : ℕ) → cond t x None ≡ Some j → (t ≡ true) × (x ≡ Some j)
some_chosen true x j e = (refl, e)
some_chosen false x j e = absurd cc

pub none_chosen : (t : Bool) (x : Option ℕ) (j : ℕ) → cond t None x ≡ Some j → (t ≡ false) × (x ≡ Some j)
none_chosen true x j e = absurd cc
none_chosen false x j e = (refl, e)

-- ---- one node

module _ (v : TimedView) (h : AreNodes v) (i : ℕ) (known : i < node_count v) where
  pub some : 0 < v.base.blocks
  some = some_blocks v.base.blocks v.periods i known

  pub block : i % v.base.blocks < v.base.blocks
  block = mod_below i v.base.blocks some

  pub period : i / v.base.blocks < v.periods
  period = div_below i v.base.blocks v.periods some known

  -- the number of block p's node in period t
  pub node_at : (t p : ℕ) → t < v.periods → p < v.base.blocks → ((t * v.base.blocks + p) / v.base.blocks ≡ t)
      × ((t * v.base.blocks + p) % v.base.blocks ≡ p) × (t * v.base.blocks + p < node_count v)
  node_at t p s l = (
    div-mul-add t v.base.blocks p l,
    mod-mul-add t v.base.blocks p l,
    omega
        (arith, mul-add-lt t v.base.blocks p v.periods s l),
  )

  -- ---- a way leads to a node that it rests on

  beside_sound : (j k : ℕ) → k < own_ways v i
      → node_from (i / v.base.blocks * v.base.blocks) (v.base.way (i % v.base.blocks) k) ≡ Some j
      → IsTrue (rests_in_time v i j)
  beside_sound j k inside e =
      let n = v.base.blocks in
      let x = from_some (i / n * n) (v.base.way (i % n) k) j e in
      let p = x.0 in
      let held = h.base.sound (i % n) p k block (record { inside = inside; there = x.1 }) in
      let at = node_at (i / n) p period (h.base.known (i % n) p held).1 in
      let same : i / n ≡ j / n = sym at.0 ∙ ap (λ (a : ℕ). a / n) x.2 in
      let own : p ≡ j % n = sym at.1 ∙ ap (λ (a : ℕ). a % n) x.2 in
      let below : j < node_count v = omega (arith, at.2, x.2) in
      let by : v.base.rests (i % n) (j % n) ≡ true = subst (λ (a : ℕ). v.base.rests (i % n) a ≡ true) own held in
      or_left (rests_in_period v i j) (rests_by_lag v i j)
      (and_from (nat_lt j (node_count v)) ((i / n == j / n && v.base.rests (i % n) (j % n)) || j == i + n)
      (lt-ltb j (node_count v) below)
      (or_left (i / n == j / n && v.base.rests (i % n) (j % n)) (j == i + n)
      (and_from (i / n == j / n) (v.base.rests (i % n) (j % n)) (eq-eqb (i / n) (j / n) same) by)))

  next_sound : (j : ℕ) → next_node v i ≡ Some j → IsTrue (rests_in_time v i j)
  next_sound j e =
      let n = v.base.blocks in
      let x = some_chosen (nat_lt (i + n) (node_count v)) (Some (i + n)) j e in
      let there : i + n ≡ j = same_Some (i + n) j x.1 in
      let below : j < node_count v = omega (arith, there, ltb-true (i + n) (node_count v) x.0) in
      or_left (rests_in_period v i j) (rests_by_lag v i j)
      (and_from (nat_lt j (node_count v)) ((i / n == j / n && v.base.rests (i % n) (j % n)) || j == i + n)
      (lt-ltb j (node_count v) below)
      (or_right (i / n == j / n && v.base.rests (i % n) (j % n)) (j == i + n) (eq-eqb j (i + n) (sym there))))

  lagged_sound : (j k : ℕ) → k < v.waits.ways (i % v.base.blocks) → lagged_node v i k ≡ Some j
      → IsTrue (rests_in_time v i j)
  lagged_sound j k inside e =
      let n = v.base.blocks in
      let late = none_chosen (nat_lt (i / n) v.lag) (node_from ((i / n - v.lag) * n) (v.waits.way (i % n) k)) j e in
      let x = from_some ((i / n - v.lag) * n) (v.waits.way (i % n) k) j late.1 in
      let p = x.0 in
      let one : i % n < v.waits.blocks = omega (arith, block, h.same) in
      let held = h.waits.sound (i % n) p k one (record { inside = inside; there = x.1 }) in
      let few : p < n = omega (arith, (h.waits.known (i % n) p held).1, h.same) in
      let at = node_at (i / n - v.lag) p (omega (arith, period)) few in
      let before : i / n - v.lag ≡ j / n = sym at.0 ∙ ap (λ (a : ℕ). a / n) x.2 in
      let own : p ≡ j % n = sym at.1 ∙ ap (λ (a : ℕ). a % n) x.2 in
      let same : i / n ≡ v.lag + j / n = omega (arith, before, not_less (i / n) v.lag late.0) in
      let by : v.waits.rests (i % n) (j % n) ≡ true = subst (λ (a : ℕ). v.waits.rests (i % n) a ≡ true) own held in
      or_right (rests_in_period v i j) (rests_by_lag v i j)
      (and_from (nat_lt i (node_count v)) (i / n == v.lag + j / n && v.waits.rests (i % n) (j % n))
      (lt-ltb i (node_count v) known)
      (and_from (i / n == v.lag + j / n) (v.waits.rests (i % n) (j % n)) (eq-eqb (i / n) (v.lag + j / n) same) by))
    where
      not_less : (a b : ℕ) → nat_lt a b ≡ false → b ≤ a
      not_less a b f = elim (cases_lt a b) [
        | inl l ↦ let t = lt-ltb a b l in absurd (cc (f, t))
        | inr m ↦ omega (arith, m)
      ]

  pub way_sound : (j k : ℕ) → WayLeads (in_time v) i j k → IsTrue (rests_in_time v i j)
  way_sound j k l =
      let n = v.base.blocks in
      let own = own_ways v i in
      let beside = node_from (i / n * n) (v.base.way (i % n) k) in
      let lagged = lagged_node v i (k - (own + 1)) in
      let rest = cond (k == own) (next_node v i) lagged in
      elim (cases_lt k own) [
        | inl less ↦ beside_sound j k less (sym (chosen (nat_lt k own) beside rest (lt-ltb k own less)) ∙ l.there)
        | inr past ↦
            let there : rest ≡ Some j = sym (other (nat_lt k own) beside rest (le-ltb k own (omega (arith, past))))
            ∙ l.there in
            elim (cases_eq k own) [
              | inl e ↦ next_sound j (sym (chosen (k == own) (next_node v i) lagged (eq-eqb k own e)) ∙ there)
              | inr d ↦ lagged_sound j (k - (own + 1)) (omega (arith, l.inside, past, d))
                  (sym (other (k == own) (next_node v i) lagged (ne_eqb k own d)) ∙ there)
            ]
      ]

  -- ---- to each of them leads a way

  -- a way of the block itself
  beside_found : (j : ℕ) → i / v.base.blocks ≡ j / v.base.blocks
      → IsTrue (v.base.rests (i % v.base.blocks) (j % v.base.blocks)) → (k : ℕ) × WayLeads (in_time v) i j k
  beside_found j same held =
      let n = v.base.blocks in
      let w = h.base.found (i % n) (j % n) held in
      let k = w.0 in
      let less : k < own_ways v i = w.1.inside in
      let place : i / n * n + j % n ≡ j = ap (λ (a : ℕ). a * n + j % n) same ∙ div-add-mod' j n in
      let there : node_from (i / n * n) (v.base.way (i % n) k) ≡ Some j = ap (node_from (i / n * n)) w.1.there
      ∙ ap Some place in (
        k,
        record {
          inside = omega (arith, less);
          there = chosen (nat_lt k (own_ways v i)) (node_from (i / n * n) (v.base.way (i % n) k))
              (cond (k == own_ways v i) (next_node v i) (lagged_node v i (k - (own_ways v i + 1))))
              (lt-ltb k (own_ways v i) less) ∙ there;
        },
      )

  next_found : (j : ℕ) → j ≡ i + v.base.blocks → j < node_count v → (k : ℕ) × WayLeads (in_time v) i j k
  next_found j e below =
      let n = v.base.blocks in
      let own = own_ways v i in
      let beside = node_from (i / n * n) (v.base.way (i % n) own) in
      let lagged = lagged_node v i (own - (own + 1)) in
      let low : i + n < node_count v = omega (arith, e, below) in
      let next : next_node v i ≡ Some j = chosen (nat_lt (i + n) (node_count v)) (Some (i + n)) None
      (lt-ltb (i + n) (node_count v) low) ∙ ap Some (sym e) in (
        own,
        record {
          inside = omega arith;
          there = other (nat_lt own own) beside (cond (own == own) (next_node v i) lagged)
              (le-ltb own own (omega arith))
              ∙ (chosen (own == own) (next_node v i) lagged (eq-eqb own own refl) ∙ next);
        },
      )

  lagged_found : (j : ℕ) → i / v.base.blocks ≡ v.lag + j / v.base.blocks
      → IsTrue (v.waits.rests (i % v.base.blocks) (j % v.base.blocks)) → (k : ℕ) × WayLeads (in_time v) i j k
  lagged_found j same held =
      let n = v.base.blocks in
      let own = own_ways v i in
      let w = h.waits.found (i % n) (j % n) held in
      let m = w.0 in
      let k = own + 1 + m in
      let beside = node_from (i / n * n) (v.base.way (i % n) k) in
      let back : k - (own + 1) ≡ m = omega arith in
      let before : i / n - v.lag ≡ j / n = omega (arith, same) in
      let place : (i / n - v.lag) * n + j % n ≡ j = ap (λ (a : ℕ). a * n + j % n) before ∙ div-add-mod' j n in
      let from : node_from ((i / n - v.lag) * n) (v.waits.way (i % n) m) ≡ Some j = ap
      (node_from ((i / n - v.lag) * n)) w.1.there ∙ ap Some place in
      let there : lagged_node v i m ≡ Some j = other (nat_lt (i / n) v.lag) None
      (node_from ((i / n - v.lag) * n) (v.waits.way (i % n) m)) (le-ltb (i / n) v.lag (omega (arith, same)))
      ∙ from in
      let late : lagged_node v i (k - (own + 1)) ≡ Some j = ap (lagged_node v i) back ∙ there in (
        k,
        record {
          inside = omega (arith, w.1.inside);
          there = other (nat_lt k own) beside (cond (k == own) (next_node v i) (lagged_node v i (k - (own + 1))))
              (le-ltb k own (omega arith))
              ∙ (other (k == own) (next_node v i) (lagged_node v i (k - (own + 1)))
              (ne_eqb k own (λ e. omega (arith, e))) ∙ late);
        },
      )

-- ---- all nodes

-- what a node's rest says, part by part
module _ (v : TimedView) (h : AreNodes v) (i j : ℕ) (t : IsTrue (rests_in_time v i j)) where
  pub both_known : (i < node_count v) × (j < node_count v)
  both_known =
      let n = v.base.blocks in
      elim (or_cases (rests_in_period v i j) (rests_by_lag v i j) t) [
        | inl x ↦
            let y = and_parts (nat_lt j (node_count v))
            ((i / n == j / n && v.base.rests (i % n) (j % n)) || j == i + n) x in
            let below = ltb-true j (node_count v) y.0 in
            let some = some_blocks n v.periods j below in
            elim (or_cases (i / n == j / n && v.base.rests (i % n) (j % n)) (j == i + n) y.1) [
              | inl z ↦
                  let same = eqb-true (i / n) (j / n) (and_parts (i / n == j / n) (v.base.rests (i % n) (j % n)) z).0 in
                  let place = mul-add-lt (i / n) n (i % n) v.periods
                  (omega (arith, div_below j n v.periods some below, same)) (mod_below i n some) in
                  (omega (arith, place, div-add-mod' i n), below)
              | inr z ↦ (omega (arith, eqb-true j (i + n) z, below), below)
            ]
        | inr x ↦
            let y = and_parts (nat_lt i (node_count v)) (i / n == v.lag + j / n && v.waits.rests (i % n) (j % n)) x in
            let known = ltb-true i (node_count v) y.0 in
            let some = some_blocks n v.periods i known in
            let same = eqb-true (i / n) (v.lag + j / n)
            (and_parts (i / n == v.lag + j / n) (v.waits.rests (i % n) (j % n)) y.1).0 in
            let place = mul-add-lt (j / n) n (j % n) v.periods
            (omega (arith, div_below i n v.periods some known, same)) (mod_below j n some) in
            (known, omega (arith, place, div-add-mod' j n))
      ]

  pub way_found : (k : ℕ) × WayLeads (in_time v) i j k
  way_found =
      let n = v.base.blocks in
      let known = both_known in
      elim (or_cases (rests_in_period v i j) (rests_by_lag v i j) t) [
        | inl x ↦
            let y = and_parts (nat_lt j (node_count v))
            ((i / n == j / n && v.base.rests (i % n) (j % n)) || j == i + n) x in
            elim (or_cases (i / n == j / n && v.base.rests (i % n) (j % n)) (j == i + n) y.1) [
              | inl z ↦
                  let w = and_parts (i / n == j / n) (v.base.rests (i % n) (j % n)) z in
                  beside_found v h i known.0 j (eqb-true (i / n) (j / n) w.0) w.1
              | inr z ↦ next_found v h i known.0 j (eqb-true j (i + n) z) known.1
            ]
        | inr x ↦
            let y = and_parts (nat_lt i (node_count v)) (i / n == v.lag + j / n && v.waits.rests (i % n) (j % n)) x in
            let w = and_parts (i / n == v.lag + j / n) (v.waits.rests (i % n) (j % n)) y.1 in
            lagged_found v h i known.0 j (eqb-true (i / n) (v.lag + j / n) w.0) w.1
      ]

-- no node rests on itself
never_itself : (v : TimedView) → AreNodes v → (i : ℕ) → ¬ (IsTrue (rests_in_time v i i))
never_itself v h i t =
    let n = v.base.blocks in
    let known = (both_known v h i i t).0 in
    let some = some_blocks n v.periods i known in
    elim (or_cases (rests_in_period v i i) (rests_by_lag v i i) t) [
      | inl x ↦
          let y = and_parts (nat_lt i (node_count v)) ((i / n == i / n && v.base.rests (i % n) (i % n)) || i == i + n)
          x in
          elim (or_cases (i / n == i / n && v.base.rests (i % n) (i % n)) (i == i + n) y.1) [
            | inl z ↦ h.base.apart (i % n) (and_parts (i / n == i / n) (v.base.rests (i % n) (i % n)) z).1
            | inr z ↦ omega (arith, eqb-true i (i + n) z, some)
          ]
      | inr x ↦
          let y = and_parts (nat_lt i (node_count v)) (i / n == v.lag + i / n && v.waits.rests (i % n) (i % n)) x in
          h.waits.apart (i % n) (and_parts (i / n == v.lag + i / n) (v.waits.rests (i % n) (i % n)) y.1).1
    ]

pub nodes_are : (v : TimedView) → AreNodes v → IsPrecedence (in_time v)
nodes_are v h = record {
  few = h.few;
  sound = λ i j k known l. way_sound v h i known j k l;
  found = way_found v h;
  known = both_known v h;
  apart = never_itself v h;
}

-- ---- numbers of nodes are small

pub small_beside : (v : TimedView) → AreNodes v → (i k n : ℕ) → i < node_count v → k < v.base.ways (i % n)
    → n ≡ v.base.blocks → (o : Option ℕ) → o ≡ v.base.way (i % n) k → IfSome o (λ p. i / n * n + p < 4294967296)
small_beside v h i k n known inside e None w = tt
small_beside v h i k n known inside e (Some p) w =
    let below : i % n < v.base.blocks = omega (arith, ap (λ m. i % m) e, block v h i known) in
    let held = h.base.sound (i % n) p k below (record { inside = inside; there = sym w }) in
    omega (arith, (h.base.known (i % n) p held).1, e, div-add-mod' i n, known, h.few, h.base.few)

pub small_lagged : (v : TimedView) → AreNodes v → (i k n : ℕ) → i < node_count v
    → k < v.waits.ways (i % v.base.blocks) → n ≡ v.base.blocks → (o : Option ℕ) → o ≡ v.waits.way (i % n) k
    → IfSome o (λ p. (i / n - v.lag) * n + p < 4294967296)
small_lagged v h i k n known inside e None w = tt
small_lagged v h i k n known inside e (Some p) w =
    let below : i % v.base.blocks < v.waits.blocks = omega (arith, block v h i known, h.same) in
    let there : v.waits.way (i % v.base.blocks) k ≡ Some p = sym (w ∙ ap (λ m. v.waits.way (i % m) k) e) in
    let held = h.waits.sound (i % v.base.blocks) p k below (record { inside = inside; there = there }) in
    let less = mul-le (i / n - v.lag) n (i / n) n (omega arith) (omega arith) in
    omega (
      arith,
      (h.waits.known (i % v.base.blocks) p held).1,
      h.same,
      e,
      less,
      div-add-mod' i n,
      known,
      h.few,
      h.base.few,
    )
