-- Each port in a block's list is a port of the block, and each of its ports that has capacity stands in the list.
use Rattle.fixed_worth.proofs.Common.{◌≡◌, ℕ, ◌<◌, ◌==◌, Bool, true, cond, Some, List, [], ◌∷◌, ◌++◌, All, length}
use Rattle.fixed_worth.proofs.Common.{get_or, map, refl, ap, sym, ◌∙◌, subst, arith, slice_get, cond_both, eq-eqb}
use Rattle.fixed_worth.proofs.Common.{eqb-true, get_or-map, length-map, All-append, All-nil, All-cons, list_any_at}
use Rattle.fixed_worth.proofs.Common.{get_or_from_slice_get, slice_get_within, common_steps}
use Rattle.ordered_group.specs.Prelude.{zero_amount, amount_at}
use Rattle.prec_file.specs.Rests.{from_at, to_at, numbers}
use Rattle.prec_file.proofs.Passing.{passing_after, passing_here, passing_at}
use Rattle.closure_net.specs.Prelude.{NetView, is_below, ports, port_list, forward_ports, backward_ports, forward_port}
use Rattle.closure_net.specs.Prelude.{backward_port, sink_port, source_port}
use Rattle.closure_net.specs.declared.port.Port.{Port}
use Rattle.closure_net.specs.declared.port.PortKind.{PortKind}
use Rattle.closure_net.specs.declared.port.PortKind.TheVariants.{Forward, Backward}
use Rattle.machine_law.specs.Prelude.{State, IsEnd, IsPortOf, HasAmounts, same_port, ports_have, IsOpenBy}

-- the port with these parts
abbrev pub port_with : PortKind → ℕ → ℕ → Port
port_with kind other slot = record { kind = kind; other = other; slot = slot }

-- ---- each port in the list
All-if : {X : Type 0} (P : X → Type 0) (t : Bool) (x : X) → P x → All P (cond t (x ∷ []) [])
All-if P t x h = cond_both t (x ∷ []) [] (All P) (λ e. All-cons P x [] h (All-nil P)) (λ e. All-nil P)

All-pairs : (P : Port → Type 0) (end : ℕ → ℕ) (f : ℕ → Port) (b m : ℕ) → ((k : ℕ) → k < m → end k ≡ b → P (f k))
    → All P (map f (numbers end b m))
All-pairs P end f b m h i d l =
    let ks = numbers end b m in
    let inside : i < length ks = omega (arith, length-map ks f, l) in
    let p = passing_at (λ k. end k == b) m i inside in
    subst P (sym (get_or-map f ks i 0 d inside)) (h (get_or ks i 0) p.below (eqb-true (end (get_or ks i 0)) b p.passes))

-- the four parts of a block's list
module _ (net : NetView) (b : ℕ) where
  abbrev to_sink : List Port
  to_sink = cond (is_below (amount_at net.worths b) zero_amount) (sink_port b ∷ []) []

  abbrev forward : List Port
  forward = forward_ports (from_at net.pairs) (to_at net.pairs) (length net.pairs) b

  abbrev backward : List Port
  backward = backward_ports (from_at net.pairs) (to_at net.pairs) (length net.pairs) b

  abbrev to_source : List Port
  to_source = cond (is_below zero_amount (amount_at net.worths b)) (source_port b ∷ []) []

  abbrev after_sink : List Port
  after_sink = forward ++ (backward ++ to_source)

  all_ports : All (IsPortOf net b) (ports net b)
  unfolding port_list
  all_ports =
      let P = IsPortOf net b in
      let w = amount_at net.worths b in
      let m = length net.pairs in
      All-append P to_sink after_sink (All-if P (is_below w zero_amount) (sink_port b) (refl, refl))
      (All-append P forward (backward ++ to_source)
      (All-pairs P (from_at net.pairs) (forward_port (to_at net.pairs)) b m (λ k l e. (l, e, refl)))
      (All-append P backward to_source
      (All-pairs P (to_at net.pairs) (backward_port (from_at net.pairs)) b m (λ k l e. (l, e, refl)))
      (All-if P (is_below zero_amount w) (source_port b) (refl, refl))))

  pub port-at : (place : ℕ) (p : Port) → slice_get (ports net b) place ≡ Some p → IsPortOf net b p
  port-at place p e = subst (IsPortOf net b) (get_or_from_slice_get (ports net b) place p p e)
      (all_ports place p (slice_get_within (ports net b) place p e))

-- ---- each open port

has_pair : (end : ℕ → ℕ) (f : ℕ → Port) (b m k : ℕ) (p : Port) → k < m → end k ≡ b → same_port (f k) p ≡ true
    → ports_have (map f (numbers end b m)) p ≡ true
has_pair end f b m k p l e h =
    let ks = numbers end b m in
    let t = eq-eqb (end k) b e in
    let j = length (numbers end b k) in
    let inside = passing_after (λ i. end i == b) k m l t in
    let at = get_or-map f ks j 0 p inside ∙ ap f (passing_here (λ i. end i == b) k m l t) in
    list_any_at (λ q. same_port q p) (map f ks) j p (omega (arith, length-map ks f, inside))
    (ap (λ q. same_port q p) at ∙ h)

pub has_backward : (net : NetView) (b k : ℕ) → k < length net.pairs → to_at net.pairs k ≡ b
    → ports_have (ports net b) (backward_port (from_at net.pairs) k) ≡ true
unfolding port_list
has_backward net b k l e = grind (
  arith,
  common_steps,
  (backward_port (from_at net.pairs) k),
  (has_pair (to_at net.pairs) (backward_port (from_at net.pairs)) b (length net.pairs) k
      (backward_port (from_at net.pairs) k) l e (eq-eqb k k refl)),
  (eq-eqb k k refl),
)

has_by : (net : NetView) (s : State) (b : ℕ) (kind : PortKind) (other slot : ℕ) → HasAmounts net s
    → IsEnd net b kind other slot → IsOpenBy net s b kind → ports_have (ports net b) (port_with kind other slot) ≡ true
unfolding port_list
has_by net s b Forward other slot k q o = grind (
  arith,
  common_steps,
  (port_with Forward other slot),
  (has_pair (from_at net.pairs) (forward_port (to_at net.pairs)) b (length net.pairs) slot
      (port_with Forward other slot) q.0 q.1 (eq-eqb slot slot refl)),
  (eq-eqb slot slot refl),
)
has_by net s b Backward other slot k q o = absurd o
has_by net s b kind other slot k q o = grind (arith, common_steps)

pub has_open : (net : NetView) (s : State) (b : ℕ) (p : Port) → HasAmounts net s → IsPortOf net b p
    → IsOpenBy net s b p.kind → ports_have (ports net b) p ≡ true
has_open net s b p k q o = has_by net s b p.kind p.other p.slot k q o

-- a list that has a port isn't empty
pub has_some : (xs : List Port) (p : Port) → ports_have xs p ≡ true → 0 < length xs
has_some xs p h = grind (arith, common_steps)
