-- What a step of another block leaves of the steep bound, and of what an operation remembers of labels.
use Rattle.fixed_worth.proofs.Common.{◌≡◌, ℕ, ◌≤◌, ◌+◌, Bool, true, not, nat_lt, ◌&&◌, Option, List, arith, ints}
use Rattle.fixed_worth.proofs.Common.{and_parts, and_from, ltb-true, lt-ltb, common_steps}
use Rattle.ordered_group.specs.Amount.{Amount, plus, minus, AtMost}
use Rattle.prec_file.specs.Rests.{from_at}
use Rattle.closure_net.specs.Prelude.{NetView, backward_port}
use Rattle.closure_net.specs.declared.port.Port.{Port}
use Rattle.machine_law.specs.declared.operations.Best.{Best}
use Rattle.machine_law.specs.declared.operations.Operation.{Operation}
use Rattle.machine_law.specs.Prelude.{State, supply, arcs, steep_capacity, label_seen, ports_have, is_under, IsWalk}
use Rattle.machine_law.specs.Prelude.{IsLevelled}

-- What a step from s to t leaves to x, whose label stays: labels only rise, and x's backward arcs gain at most what its
-- supply does.
pub record IsCalm (net : NetView) (s t : State) (x : ℕ) : Type 0 where
  pub own : t.label x ≡ s.label x
  pub labels : (i : ℕ) → s.label i ≤ t.label i
  pub source : t.source x ≡ s.source x
  pub sink : t.sink x ≡ s.sink x
  pub gain : Amount
  pub arcs_most : (f g : ℕ → Bool) → ((k : ℕ) → f k ≡ true → g k ≡ true)
      → AtMost (arcs net f t.flow x) (plus (arcs net g s.flow x) gain)
  pub supply_more : AtMost (plus (supply net s x) gain) (supply net t x)

-- x ≤ a + g, a ≤ c - h and c + g ≤ d give x ≤ d - h
chain : (x a c d g h : Amount) → AtMost x (plus a g) → AtMost a (minus c h) → AtMost (plus c g) d → AtMost x (minus d h)
chain x a c d g h p q r = record
    { worths = omega (arith, ints, p, q, r); counts = λ i. omega (arith, ints, p, q, r, i) }

chain_all : (x a c d g : Amount) → AtMost x (plus a g) → AtMost a c → AtMost (plus c g) d → AtMost x d
chain_all x a c d g p q r = record
    { worths = omega (arith, ints, p, q, r); counts = λ i. omega (arith, ints, p, q, r, i) }

label_seen-more : (best : Option (Best Amount)) (k m n : ℕ) → m ≤ n → label_seen best k m ≤ label_seen best k n
label_seen-more best k m n h = grind (arith, common_steps)

module _ (net : NetView) (s t : State) (x : ℕ) (m : IsCalm net s t x) where
  pub walk_calm : (have : Amount) (rest : List Port) (best : Option (Best Amount)) → IsWalk net s x have rest best
      → IsWalk net t x have rest best
  walk_calm have rest best h = record {
    level = grind (arith, common_steps);
    low_most =
        let f : ℕ → Bool = λ k. not (ports_have rest (backward_port (from_at net.pairs) k)) && is_under best
        (t.label (from_at net.pairs k)) in
        let g : ℕ → Bool = λ k. not (ports_have rest (backward_port (from_at net.pairs) k)) && is_under best
        (s.label (from_at net.pairs k)) in
        let a = m.arcs_most f g (λ k e.
        let p = and_parts (not (ports_have rest (backward_port (from_at net.pairs) k)))
        (is_under best (t.label (from_at net.pairs k))) e in
        and_from (not (ports_have rest (backward_port (from_at net.pairs) k)))
        (is_under best (s.label (from_at net.pairs k))) p.0 (grind (arith, common_steps))) in
        chain (arcs net f t.flow x) (arcs net g s.flow x) (supply net s x) (supply net t x) m.gain have a h.low_most
        m.supply_more;
    high_most =
        let f : ℕ → Bool = λ k. nat_lt (label_seen best k (t.label (from_at net.pairs k)) + 1) (t.label x) in
        let g : ℕ → Bool = λ k. nat_lt (label_seen best k (s.label (from_at net.pairs k)) + 1) (s.label x) in
        let a = m.arcs_most f g (λ k e.
        let l = ltb-true (label_seen best k (t.label (from_at net.pairs k)) + 1) (t.label x) e in
        let q = label_seen-more best k (s.label (from_at net.pairs k)) (t.label (from_at net.pairs k))
        (m.labels (from_at net.pairs k)) in
        let o = m.own in
        lt-ltb (label_seen best k (s.label (from_at net.pairs k)) + 1) (s.label x) (omega (arith, l, q, o))) in
        chain_all (arcs net f t.flow x) (arcs net g s.flow x) (supply net s x) (supply net t x) m.gain a h.high_most
        m.supply_more;
    passed = λ p q o n. grind (arith, common_steps);
  }

  pub operation_calm : (o : Operation Amount) → IsLevelled net s x o → IsLevelled net t x o
  operation_calm o h = grind (arith, common_steps, walk_calm)

  pub steep_calm : AtMost (steep_capacity net s x) (supply net s x) → AtMost (steep_capacity net t x) (supply net t x)
  steep_calm h =
      let f : ℕ → Bool = λ k. nat_lt (t.label (from_at net.pairs k) + 1) (t.label x) in
      let g : ℕ → Bool = λ k. nat_lt (s.label (from_at net.pairs k) + 1) (s.label x) in
      let a = m.arcs_most f g (λ k q.
      let l = ltb-true (t.label (from_at net.pairs k) + 1) (t.label x) q in
      let i = m.labels (from_at net.pairs k) in
      let o = m.own in
      lt-ltb (s.label (from_at net.pairs k) + 1) (s.label x) (omega (arith, l, i, o))) in
      chain_all (arcs net f t.flow x) (arcs net g s.flow x) (supply net s x) (supply net t x) m.gain a h m.supply_more
