-- The ways of a grid.
use Rattle.fixed_worth.proofs.Common.{◌≡◌, ℕ, zero, suc, ◌<◌, ◌+◌, ◌==◌, ◌&&◌, nat_lt, ◌∙◌, Bool, true, inl, inr}
use Rattle.fixed_worth.proofs.Common.{IsTrue, Some, length, get_or, sym, subst, ap, arith, common_steps, and_from}
use Rattle.fixed_worth.proofs.Common.{and_parts, eq-eqb, eqb-true, lt-ltb, ltb-true, or_cases, or_left, or_right}
use Rattle.fixed_worth.proofs.Common.{cases_eq}
use Rattle.places.specs.Prelude.{IsPrecedence, WayLeads, GridView, IsGrid, home_at, region_at, first_way, ways_at}
use Rattle.places.specs.Prelude.{cell_at, block_in, any_below, rests_at, gridded}

-- one passes
pub any_from : (test : ℕ → Bool) (m : ℕ) → any_below test m ≡ true → (k : ℕ) × (k < m) × (test k ≡ true)
any_from test zero h = grind (arith, common_steps)
any_from test (suc m) h = elim (or_cases (test m) (any_below test m) h) [
  | inl e ↦ (m, omega arith, e)
  | inr e ↦ let r = any_from test m e in (r.0, omega (arith, r.1), r.2)
]

pub any_to : (test : ℕ → Bool) (m k : ℕ) → k < m → test k ≡ true → any_below test m ≡ true
any_to test zero k l h = absurd (omega arith)
any_to test (suc m) k l h = elim (cases_eq k m) [
  | inl e ↦ or_left (test m) (any_below test m) (subst (λ j. test j ≡ true) e h)
  | inr d ↦ or_right (test m) (any_below test m) (any_to test m k (omega arith) h)
]

-- what a cell holds
held_in : (cell p : ℕ) → block_in cell ≡ Some p → cell ≡ p + 1
held_in zero p h = grind (arith, common_steps)
held_in (suc b) p h = grind (arith, common_steps)

-- a way is inside
inside : (g : GridView) → IsGrid g → (b k : ℕ) → b < length g.lows → k < ways_at g b → cell_at g b k < length g.cells
inside g h b k known less = h.inside b (first_way g b + k) known
    (omega (arith, less, h.starts (region_at g b) (h.region b known)))

sound : (g : GridView) → IsGrid g → (b p k : ℕ) → b < length g.lows → WayLeads (gridded g) b p k
    → IsTrue (rests_at g b p)
sound g h b p k known l =
    let within = inside g h b k known l.inside in
    let holds = held_in (get_or g.cells (cell_at g b k) 0) p l.there in
    let there = h.only (cell_at g b k) p within holds in
    let own : p < length g.lows = omega (arith, holds, h.known (cell_at g b k) within) in
    let t = any_to (λ j. cell_at g b j == home_at g p) (ways_at g b) k l.inside
    (eq-eqb (cell_at g b k) (home_at g p) (sym there)) in
    and_from _ _ (and_from _ _ (lt-ltb b (length g.lows) known) (lt-ltb p (length g.lows) own)) t

pub parts : (g : GridView) (b p : ℕ) → IsTrue (rests_at g b p) → (b < length g.lows) × (p < length g.lows)
    × (any_below (λ j. cell_at g b j == home_at g p) (ways_at g b) ≡ true)
parts g b p h =
    let both = and_parts (nat_lt b (length g.lows) && nat_lt p (length g.lows))
    (any_below (λ j. cell_at g b j == home_at g p) (ways_at g b)) h in
    let own = and_parts (nat_lt b (length g.lows)) (nat_lt p (length g.lows)) both.0 in
    (ltb-true b (length g.lows) own.0, ltb-true p (length g.lows) own.1, both.1)

found : (g : GridView) → IsGrid g → (b p : ℕ) → IsTrue (rests_at g b p) → (k : ℕ) × WayLeads (gridded g) b p k
found g h b p held =
    let own = parts g b p held in
    let one = any_from (λ j. cell_at g b j == home_at g p) (ways_at g b) own.2 in
    let same = eqb-true (cell_at g b one.0) (home_at g p) one.2 in
    let e : get_or g.cells (cell_at g b one.0) 0 ≡ suc p = ap (λ c. get_or g.cells c 0) same
    ∙ (h.home p own.1 ∙ omega arith) in
    (one.0, record { inside = one.1; there = ap block_in e })

-- no block rests on itself
away : (g : GridView) → IsGrid g → (b : ℕ) → ¬ (IsTrue (rests_at g b b))
away g h b t =
    let own = parts g b b t in
    let one = any_from (λ j. cell_at g b j == home_at g b) (ways_at g b) own.2 in
    let same = eqb-true (cell_at g b one.0) (home_at g b) one.2 in
    h.away (first_way g b + one.0) (omega (arith, one.1, h.starts (region_at g b) (h.region b own.0)))
    (omega (arith, same))

pub gridded_is : (g : GridView) → IsGrid g → IsPrecedence (gridded g)
gridded_is g h = record {
  few = h.blocks;
  sound = sound g h;
  found = found g h;
  known = λ b p t. let own = parts g b p t in (own.0, own.1);
  apart = away g h;
}
