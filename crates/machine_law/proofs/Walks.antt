-- What an operation remembers of labels, over its reads: how far it has looked.
use Rattle.fixed_worth.proofs.Common.{◌≡◌, ℕ, ◌≤◌, ◌+◌, inl, inr, Bool, true, false, not, nat_lt, ◌&&◌, Option, Some}
use Rattle.fixed_worth.proofs.Common.{None, List, ◌∷◌, refl, sym, ◌∙◌, arith, ints, and_parts, and_from, cases_Bool}
use Rattle.fixed_worth.proofs.Common.{ltb-true, or_from, not-true, not_from_false, true≢false, common_steps}
use Rattle.ordered_group.specs.Amount.{Amount, zero_amount, minus, AtMost, Below}
use Rattle.ordered_group.proofs.Order.{AtMost-refl, AtMost-trans}
use Rattle.prec_file.specs.Rests.{from_at}
use Rattle.closure_net.specs.Prelude.{NetView, ports, backward_port}
use Rattle.closure_net.specs.declared.port.Port.{Port}
use Rattle.closure_net.specs.declared.port.PortKind.{PortKind}
use Rattle.closure_net.specs.declared.port.PortKind.TheVariants.{Sink, Forward, Backward, Source}
use Rattle.machine_law.specs.declared.operations.Best.{Best}
use Rattle.machine_law.specs.Prelude.{State, room, capacity, capacity_by, end_label, label_beyond, IsEnd, IsPortOf}
use Rattle.machine_law.specs.Prelude.{is_positive, better_of, amount_owed, HasAmounts, supply, arcs, steep_capacity}
use Rattle.machine_law.specs.Prelude.{high_capacity, label_by, same_by, same_port, ports_have, is_under, IsOpenBy}
use Rattle.machine_law.specs.Prelude.{IsWalk, HasLabels}
use Rattle.machine_law.proofs.Numbers.{same, shifted, positive-no, Below-absurd}
use Rattle.machine_law.proofs.Arcs.{arcs-most, arcs-most_or, arcs-none}
use Rattle.machine_law.proofs.PortLists.{has_backward, has_open}
use Rattle.machine_law.proofs.Coming.{coming_nonneg}

-- not forward
abbrev pub IsLimited : PortKind → Type 0
IsLimited Forward = ⊥
IsLimited _ = Unit {0}

-- by the kind of port: it has capacity, or is backward
abbrev pub IsReady : NetView → State → ℕ → PortKind → Type 0
IsReady net s b Sink = Below zero_amount (room net s b)
IsReady net s b Source = Below zero_amount (s.source b)
IsReady net s b _ = Unit {0}

-- ---- two ports of one block that are the same
module _ (net : NetView) (s : State) (b : ℕ) where
  -- over a backward port without capacity the pair carries nothing
  shut_arc : (kind : PortKind) (slot j : ℕ) → AtMost (capacity_by net s b kind slot) zero_amount
      → same_by kind Backward slot j ≡ true → AtMost (s.flow j) zero_amount
  shut_arc kind slot j z e = grind (arith, common_steps)

  -- a port without capacity isn't open
  shut_port : (p q : PortKind) (i j : ℕ) → IsLimited p → AtMost (capacity_by net s b p i) zero_amount
      → same_by p q i j ≡ true → IsOpenBy net s b q → ⊥
  shut_port Sink Sink i j c z e o = Below-absurd o z
  shut_port Forward Forward i j c z e o = c
  shut_port Backward Backward i j c z e o = o
  shut_port Source Source i j c z e o = Below-absurd o z
  shut_port _ _ i j c z e o = true≢false (sym e)

  same_end_of : (p q : Port) → IsPortOf net b p → IsPortOf net b q → same_port p q ≡ true
      → end_label net s p ≡ end_label net s q
  same_end_of p q x y e = grind (arith, common_steps)

-- ---- the best port, with one more
better_of-most : (best : Option (Best Amount)) (new : Best Amount) → (better_of best new).label ≤ new.label
better_of-most best new = grind (arith, common_steps)

module _ (net : NetView) (s : State) (b : ℕ) (k : HasAmounts net s) (h : HasLabels net s) where
  -- at a new best port the arcs count by their present labels
  seen_new : (kind : PortKind) (other slot j : ℕ) → IsEnd net b kind other slot
      → label_by kind slot (label_beyond net kind (s.label other)) j (s.label (from_at net.pairs j)) ≡ s.label
      (from_at net.pairs j)
  seen_new kind other slot j q = grind (arith, common_steps)

  high_better : (best : Option (Best Amount)) (new : Best Amount)
      → AtMost (high_capacity net s b best) (supply net s b)
      → AtMost (high_capacity net s b (Some new)) (supply net s b)
      → AtMost (high_capacity net s b (Some (better_of best new))) (supply net s b)
  high_better best new i n = grind (arith, common_steps)

  -- ---- an operation begins
  pub walk_begun : amount_owed (s.operation b) ≡ zero_amount → IsWalk net s b (s.excess b) (ports net b) None
  walk_begun e = record {
    level = tt;
    low_most =
        let f : ℕ → Bool = λ j. not (ports_have (ports net b) (backward_port (from_at net.pairs) j)) && true in
        let z = same (arcs-none net f s.flow b (λ j l at q.
        let p = and_parts (not (ports_have (ports net b) (backward_port (from_at net.pairs) j))) true q in
        true≢false (sym (has_backward net b j l at)
        ∙ not-true (ports_have (ports net b) (backward_port (from_at net.pairs) j)) p.0))) in
        let o = same e in
        shifted (coming_nonneg net s b k) (record { w = omega (arith, ints, z, o); c = omega (arith, ints, z, o) });
    high_most = h.steep_most b;
    passed = λ p q o n. true≢false (sym (has_open net s b p k q o) ∙ n);
  }

  -- ---- a port is passed that has no capacity
  pub walk_pass : (have : Amount) (p : Port) (ps : List Port) (best : Option (Best Amount)) → IsLimited p.kind
      → is_positive (capacity net s b p) ≡ false → IsWalk net s b have (p ∷ ps) best → IsWalk net s b have ps best
  walk_pass have p ps best c y w =
      let z : AtMost (capacity_by net s b p.kind p.slot) zero_amount = positive-no (capacity net s b p) y in
      record {
        level = w.level;
        low_most =
            let back : ℕ → Port = backward_port (from_at net.pairs) in
            let f : ℕ → Bool = λ j. not (ports_have ps (back j)) && is_under best (s.label (from_at net.pairs j)) in
            let g : ℕ → Bool = λ j. not (ports_have (p ∷ ps) (back j)) && is_under best
            (s.label (from_at net.pairs j)) in
            AtMost-trans (arcs net f s.flow b) (arcs net g s.flow b) (minus (supply net s b) have)
            (arcs-most_or net f g s.flow b (λ j _ _ e.
            let q = and_parts (not (ports_have ps (back j))) (is_under best (s.label (from_at net.pairs j))) e in
            elim (cases_Bool (same_port p (back j))) [
              | inl t ↦ inr (shut_arc net s b p.kind p.slot j z t)
              | inr n ↦ inl (and_from (not (ports_have (p ∷ ps) (back j)))
                  (is_under best (s.label (from_at net.pairs j)))
                  (not_from_false (ports_have (p ∷ ps) (back j))
                  (or_from (same_port p (back j)) (ports_have ps (back j)) n (not-true (ports_have ps (back j)) q.0)))
                  q.1)
            ]) k.flow)
            w.low_most;
        high_most = w.high_most;
        passed = λ q iq oq n. elim (cases_Bool (same_port p q)) [
          | inl t ↦ absurd (shut_port net s b p.kind q.kind p.slot q.slot c z t oq)
          | inr m ↦ w.passed q iq oq (or_from (same_port p q) (ports_have ps q) m n)
        ];
      }

  -- ---- a port is passed whose label is read
  pub walk_choose : (have read : Amount) (p : Port) (ps : List Port) (best : Option (Best Amount)) → IsPortOf net b p
      → IsReady net s b p.kind → IsWalk net s b have (p ∷ ps) best
      → IsWalk net s b have ps (Some (better_of best (record { port = p; capacity = read; label = end_label net s p })))
  walk_choose have read p ps best ip r w =
      let new : Best Amount = record { port = p; capacity = read; label = end_label net s p } in
      let most = better_of-most best new in
      let back : ℕ → Port = backward_port (from_at net.pairs) in
      record {
        level = grind (arith, common_steps);
        low_most =
            let f : ℕ → Bool = λ j. not (ports_have ps (back j)) && is_under (Some (better_of best new))
            (s.label (from_at net.pairs j)) in
            let g : ℕ → Bool = λ j. not (ports_have (p ∷ ps) (back j)) && is_under best
            (s.label (from_at net.pairs j)) in
            AtMost-trans (arcs net f s.flow b) (arcs net g s.flow b) (minus (supply net s b) have)
            (arcs-most net f g s.flow s.flow b (λ j l at z.
            let q = and_parts (not (ports_have ps (back j)))
            (is_under (Some (better_of best new)) (s.label (from_at net.pairs j))) z in
            elim (cases_Bool (same_port p (back j))) [
              | inl y ↦
                  let u = same_end_of net s b p (back j) ip (l, at, refl) y in
                  let v = ltb-true (s.label (from_at net.pairs j)) (better_of best new).label q.1 in
                  absurd (omega (arith, u, v, most))
              | inr n ↦ and_from (not (ports_have (p ∷ ps) (back j))) (is_under best (s.label (from_at net.pairs j)))
                  (not_from_false (ports_have (p ∷ ps) (back j))
                  (or_from (same_port p (back j)) (ports_have ps (back j)) n (not-true (ports_have ps (back j)) q.0)))
                  (grind (arith, common_steps))
            ]) (λ j. AtMost-refl (s.flow j)) k.flow)
            w.low_most;
        high_most = high_better best new w.high_most
            (AtMost-trans (high_capacity net s b (Some new)) (steep_capacity net s b) (supply net s b)
            (arcs-most net (λ j. nat_lt
            (label_by p.kind p.slot (end_label net s p) j (s.label (from_at net.pairs j)) + 1) (s.label b))
            (λ j. nat_lt (s.label (from_at net.pairs j) + 1) (s.label b)) s.flow s.flow b
            (λ j _ _ z. rw (seen_new p.kind p.other p.slot j ip) at z) (λ j. AtMost-refl (s.flow j)) k.flow)
            (h.steep_most b));
        passed = λ q iq oq n. elim (cases_Bool (same_port p q)) [
          | inl y ↦ let u = same_end_of net s b p q ip iq y in omega (arith, u, most)
          | inr m ↦ grind (arith, common_steps)
        ];
      }
