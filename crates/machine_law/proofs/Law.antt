-- The law on one step, and over whole runs.
use Rattle.fixed_worth.proofs.Common.{◌≡◌, ℕ, ◌<◌, ◌+◌, inl, Option, Some, None, nat_lt, List, [], ◌∷◌, drop, length}
use Rattle.fixed_worth.proofs.Common.{refl, sym, subst, arith, drop-cons, add-one, slice_get, ints, cond_both, ltb-true}
use Rattle.fixed_worth.proofs.Common.{get_or_from_slice_get, slice_get_within, common_steps}
use Rattle.ordered_group.specs.Prelude.{Amount, zero_amount, plus, minus, AtMost, positive, amount_at}
use Rattle.ordered_group.proofs.Signs.{NonNeg-plus}
use Rattle.closure_net.specs.Prelude.{NetView, ports}
use Rattle.closure_net.specs.declared.port.Port.{Port}
use Rattle.closure_net.specs.declared.port.PortKind.{PortKind}
use Rattle.closure_net.specs.declared.port.PortKind.TheVariants.{Sink, Forward, Backward, Source}
use Rattle.machine_law.specs.declared.events.Event.{Event}
use Rattle.machine_law.specs.declared.operations.Best.{Best}
use Rattle.machine_law.specs.declared.operations.Operation.{Operation}
use Rattle.machine_law.specs.declared.operations.Operation.TheVariants.{Idle, Scan}
use Rattle.machine_law.specs.Prelude.{State, opening, capacity, end_label, is_positive, operation_begun_with}
use Rattle.machine_law.specs.Prelude.{after_port, after_capacity, after_label, after_look, after_look_by}
use Rattle.machine_law.specs.Prelude.{after_label_at, advance, advance_by, Run, amount_owed, amount_coming, HasAmounts}
use Rattle.machine_law.specs.Prelude.{IsOperation, IsWithinBy, IsReadCapacity, steep_capacity, IsWalk, IsLevelled}
use Rattle.machine_law.specs.Prelude.{HasLabels, IsLawful, StepsKeepLaw, RunsKeepLaw}
use Rattle.machine_law.proofs.Numbers.{same, shifted, Below-more}
use Rattle.machine_law.proofs.Arcs.{arcs-none}
use Rattle.machine_law.proofs.PortLists.{port_with, port-at}
use Rattle.machine_law.proofs.Coming.{coming_nonneg}
use Rattle.machine_law.proofs.Keeps.{amounts_advance, amounts_opening}
use Rattle.machine_law.proofs.Balanced.{rest_begun, rest_looked, rest_weighed, balanced_advance, balanced_opening}
use Rattle.machine_law.proofs.Walks.{IsLimited, IsReady, walk_begun, walk_pass, walk_choose}
use Rattle.machine_law.proofs.Staying.{labels_rest, labels_taken, labels_given}
use Rattle.machine_law.proofs.Raising.{labels_raised}
use Rattle.machine_law.proofs.Pushing.{labels_pushed}

-- ---- the ports that are left
rest_at : {X : Type 0} (xs : List X) (i : ℕ) (x : X) → slice_get xs i ≡ Some x → drop i xs ≡ x ∷ drop (i + 1) xs
rest_at xs i x e = grind (
  arith,
  common_steps,
  (slice_get_within xs i x e),
  (get_or_from_slice_get xs i x x e),
  (drop-cons xs i x (slice_get_within xs i x e)),
  (add-one i),
)

module _ (net : NetView) (s : State) (b : ℕ) (k : HasAmounts net s) (h : HasLabels net s) where
  walk_at : (have : Amount) (place : ℕ) (best : Option (Best Amount)) (p : Port)
      → slice_get (ports net b) place ≡ Some p → IsWalk net s b have (drop place (ports net b)) best
      → IsWalk net s b have (p ∷ drop (place + 1) (ports net b)) best
  walk_at have place best p e w = subst (λ (r : List Port). IsWalk net s b have r best)
      (rest_at (ports net b) place p e) w

  -- ---- what the reads leave
  levelled_begun : amount_owed (s.operation b) ≡ zero_amount → IsLevelled net s b (operation_begun_with (s.excess b))
  levelled_begun o = cond_both (is_positive (s.excess b)) (Scan (s.excess b) 0 None None) Idle (IsLevelled net s b)
      (λ _. walk_begun net s b k h o) (λ _. tt)

  levelled_passed : (have : Amount) (place : ℕ) (best : Option (Best Amount))
      → IsWalk net s b have (drop (place + 1) (ports net b)) best
      → IsLevelled net s b (after_port (length (ports net b)) (s.label b) have place best)
  levelled_passed have place best w = grind (arith, common_steps)

  levelled_seen : (have : Amount) (place : ℕ) (best : Option (Best Amount)) (p : Port)
      → slice_get (ports net b) place ≡ Some p → IsLimited p.kind
      → IsWalk net s b have (drop place (ports net b)) best
      → IsLevelled net s b (after_capacity (length (ports net b)) (s.label b) have place best (capacity net s b p))
  levelled_seen have place best p e c w = cond_both (is_positive (capacity net s b p))
      (Scan have place (Some (capacity net s b p)) best)
      (after_port (length (ports net b)) (s.label b) have place best) (IsLevelled net s b)
      (λ y. w)
      (λ z. levelled_passed have place best
      (walk_pass net s b k h have p (drop (place + 1) (ports net b)) best c z (walk_at have place best p e w)))

  levelled_chosen : (have : Amount) (place : ℕ) (best : Option (Best Amount)) (read : Amount) (p : Port)
      → slice_get (ports net b) place ≡ Some p → IsReady net s b p.kind
      → IsWalk net s b have (drop place (ports net b)) best
      → IsLevelled net s b (after_label (length (ports net b)) (s.label b) have place best read p (end_label net s p))
  levelled_chosen have place best read p e r w = grind (
    arith,
    common_steps,
    (walk_choose net s b k h have read p (drop (place + 1) (ports net b)) best
        (port-at net b place p e) r (walk_at have place best p e w)),
    (port-at net b place p e),
    (walk_at have place best p e w),
  )

  levelled_looked_by : (have : Amount) (place : ℕ) (best : Option (Best Amount)) (kind : PortKind) (other slot : ℕ)
      → slice_get (ports net b) place ≡ Some (port_with kind other slot)
      → IsWalk net s b have (drop place (ports net b)) best
      → IsLevelled net s b (after_look_by net s b have place best (port_with kind other slot) kind)
  levelled_looked_by have place best Sink other slot e w = levelled_seen have place best (port_with Sink other slot) e
      tt w
  levelled_looked_by have place best Forward other slot e w = levelled_chosen have place best zero_amount
      (port_with Forward other slot) e tt w
  levelled_looked_by have place best Backward other slot e w = levelled_seen have place best
      (port_with Backward other slot) e tt w
  levelled_looked_by have place best Source other slot e w = levelled_seen have place best
      (port_with Source other slot) e tt w

  levelled_looked : (have : Amount) (place : ℕ) (best : Option (Best Amount)) (q : Option Port)
      → slice_get (ports net b) place ≡ q → IsWalk net s b have (drop place (ports net b)) best
      → IsLevelled net s b (after_look net s b have place best q)
  levelled_looked have place best None e w = tt
  levelled_looked have place best (Some p) e w = levelled_looked_by have place best p.kind p.other p.slot e w

  -- a port whose capacity was read, and is positive
  ready_read : (kind : PortKind) (slot : ℕ) (read : Amount) → IsWithinBy net s b kind slot read → IsReady net s b kind
  ready_read Forward slot read w = tt
  ready_read Backward slot read w = tt
  ready_read _ slot read w = Below-more w.0 w.1

  levelled_weighed : (have : Amount) (place : ℕ) (best : Option (Best Amount)) (read : Amount) (q : Option Port)
      → slice_get (ports net b) place ≡ q → IsReadCapacity net s b (Some read) q
      → IsWalk net s b have (drop place (ports net b)) best
      → IsLevelled net s b (after_label_at net s b have place best read q)
  levelled_weighed have place best read q e r w = grind (arith, common_steps, levelled_chosen, ready_read)

  -- ---- each step
  labels_advance_by : (o : Operation Amount) → b < length net.worths → s.operation b ≡ o → IsOperation net s b o
      → IsLevelled net s b o → ((j : ℕ) → AtMost zero_amount ((advance_by net s b o).flow j))
      → HasLabels net (advance_by net s b o)
  labels_advance_by o l e i w a = grind (
    arith,
    common_steps,
    labels_rest,
    rest_begun,
    levelled_begun,
    rest_looked,
    levelled_looked,
    rest_weighed,
    levelled_weighed,
    labels_pushed,
    labels_taken,
    labels_given,
    labels_raised,
  )

-- ---- the law
pub lawful_advance : (net : NetView) (s : State) (b : ℕ) → b < length net.worths → IsLawful net s
    → IsLawful net (advance net s b)
lawful_advance net s b l h = grind (
  arith,
  common_steps,
  (amounts_advance net s b h.amounts h.balances),
  (balanced_advance net s b l h.amounts h.balances),
  (labels_advance_by net s b h.amounts h.labels (s.operation b) l refl (h.amounts.operation b)
      (h.labels.operation b) (amounts_advance net s b h.amounts h.balances).flow),
)

pub steps_keep_law : StepsKeepLaw
steps_keep_law net s e t h st = subst (IsLawful net) (sym st.after) (lawful_advance net s e.block st.block h)

-- ---- the opening
steep_opening : (net : NetView) (b : ℕ)
    → AtMost (steep_capacity net (opening net) b)
    (minus (plus (positive (amount_at net.worths b)) (amount_coming net (opening net) b)) zero_amount)
steep_opening net b =
    let z = same (arcs-none net (λ j. nat_lt (0 + 1) 0) (λ j. zero_amount) b
    (λ j _ _ q. let l = ltb-true (0 + 1) 0 q in absurd (omega (arith, l)))) in
    let c = coming_nonneg net (opening net) b (amounts_opening net) in
    shifted (NonNeg-plus (positive (amount_at net.worths b)) (amount_coming net (opening net) b)
    ((amounts_opening net).source b) c) (record { w = omega (arith, ints, z); c = omega (arith, ints, z) })

labels_opening : (net : NetView) → HasLabels net (opening net)
labels_opening net = record {
  forward = λ j l. omega arith;
  sink = λ b y. omega arith;
  source = λ b y. omega arith;
  left = λ b. inl refl;
  steep_most = λ b. steep_opening net b;
  operation = λ b. tt;
}

pub lawful_opening : (net : NetView) → IsLawful net (opening net)
lawful_opening net = record {
  amounts = amounts_opening net;
  balances = balanced_opening net;
  labels = labels_opening
      net;
}

pub lawful_run : (net : NetView) (s : State) (es : List Event) (t : State) → IsLawful net s → Run net s es t
    → IsLawful net t
lawful_run net s [] t h r = subst (IsLawful net) (sym r) h
lawful_run net s (e ∷ es) t h r = lawful_run net r.0 es t (steps_keep_law net s e r.0 h r.1) r.2

pub runs_keep_law : RunsKeepLaw
runs_keep_law net es t r = lawful_run net (opening net) es t (lawful_opening net) r
