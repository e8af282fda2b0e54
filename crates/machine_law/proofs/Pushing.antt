-- The capacity step keeps what holds of the labels.
use Rattle.fixed_worth.proofs.Common.{◌≡◌, ◌≢◌, ℕ, ◌+◌, ◌<◌, ◌≤◌, ◌⊎◌, ◌==◌, inl, inr, Bool, true, false, not, nat_lt}
use Rattle.fixed_worth.proofs.Common.{◌&&◌, Some, [], length, refl, ap, sym, subst, arith, ints, cases_eq, cases_lt}
use Rattle.fixed_worth.proofs.Common.{lt-ltb, eq-eqb, ne_eqb, and_from, common_steps}
use Rattle.ordered_group.specs.Prelude.{Amount, zero_amount, plus, minus, AtMost, Below, positive, negative, where_so}
use Rattle.ordered_group.specs.Prelude.{amount_at}
use Rattle.ordered_group.proofs.Order.{AtMost-refl, AtMost-trans, Below-most}
use Rattle.ordered_group.proofs.Signs.{AtMost-minus}
use Rattle.ordered_group.proofs.Totals.{where_at, where_not, where_nonneg}
use Rattle.prec_file.specs.Rests.{from_at, to_at}
use Rattle.closure_net.specs.Network.{NetView}
use Rattle.closure_net.specs.declared.port.PortKind.{PortKind}
use Rattle.closure_net.specs.declared.port.PortKind.TheVariants.{Sink, Forward, Backward, Source}
use Rattle.machine_law.specs.declared.operations.Best.{Best}
use Rattle.machine_law.specs.declared.operations.Operation.{Operation}
use Rattle.machine_law.specs.declared.operations.Operation.TheVariants.{PushDue, TakeDue}
use Rattle.machine_law.specs.Prelude.{State, with_value_at, room, IsEnd, IsPortOf, after_push, after_push_by}
use Rattle.machine_law.specs.Prelude.{push_amount, amount_landing_by, HasAmounts, IsWithin, IsWithinBy, supply, arcs}
use Rattle.machine_law.specs.Prelude.{steep_capacity, label_seen, IsWalk, IsLevelled, HasLabels}
use Rattle.machine_law.proofs.Numbers.{Same, same, shifted, joined, Below-more}
use Rattle.machine_law.proofs.Points.{with_value_at-other, with_value_at-each}
use Rattle.machine_law.proofs.Arcs.{arcs-most, arcs-plus, arcs-with_value_at}
use Rattle.machine_law.proofs.Calm.{IsCalm, operation_calm, steep_calm}
use Rattle.machine_law.proofs.Supply.{supply_pushed}
use Rattle.machine_law.proofs.Staying.{same_arcs}
use Rattle.machine_law.proofs.PortLists.{port_with}
use Rattle.machine_law.proofs.Keeps.{push_most, push_some}

-- a ≤ low + g, low ≤ v - have and d ≤ have, where the supply v becomes v + g - d
room_left : (a low v v' have d g : Amount) → AtMost a (plus low g) → AtMost low (minus v have) → AtMost d have
    → Same v' (minus (plus v g) d) → AtMost a v'
room_left a low v v' have d g p q r e = record
    { worths = omega (arith, ints, p, q, r, e); counts = λ i. omega (arith, ints, p, q, r, e, i) }

-- a push of b over the port of these parts is due, which was best with this capacity and label
module _ (net : NetView) (s : State) (b : ℕ) (l : b < length net.worths) (have read : Amount) (label : ℕ)
    (other slot : ℕ)
    (some : Below zero_amount have) (below : label < s.label b) (k : HasAmounts net s) (h : HasLabels net s) where
  abbrev best_at : PortKind → Best Amount
  best_at kind = record { port = port_with kind other slot; capacity = read; label = label }

  abbrev amount_of : PortKind → Amount
  amount_of kind = push_amount have kind read

  abbrev after : PortKind → State
  after kind = after_push_by s b (amount_of kind) (port_with kind other slot) kind

  -- the arcs of b that fall by more than one label
  abbrev is_steep : ℕ → Bool
  is_steep j = nat_lt (s.label (from_at net.pairs j) + 1) (s.label b)

  -- those that end below the best port
  abbrev is_low : ℕ → Bool
  is_low j = not false && nat_lt (s.label (from_at net.pairs j)) label

  -- the supply after the push
  supply_at : (kind : PortKind) (x : ℕ) → s.operation b ≡ PushDue have (best_at kind)
      → Same (supply net (after kind) x)
      (minus (plus (supply net s x) (amount_landing_by kind other x (amount_of kind)))
      (where_so (b == x) (amount_of kind)))
  supply_at kind x e = supply_pushed net s b l x have (best_at kind) (amount_of kind) (port_with kind other slot) kind e

  supply_own : (kind : PortKind) → s.operation b ≡ PushDue have (best_at kind)
      → Same (supply net (after kind) b)
      (minus (plus (supply net s b) (amount_landing_by kind other b (amount_of kind))) (amount_of kind))
  supply_own kind e = grind (
    arith,
    common_steps,
    (supply_at kind b e),
    (same (where_at (b == b) (amount_of kind) (eq-eqb b b refl))),
    (where_at (b == b) (amount_of kind) (eq-eqb b b refl)),
    (eq-eqb b b refl),
  )

  -- what the backward arcs of x gain
  arcs_pushed : (kind : PortKind) (x : ℕ) → IsEnd net b kind other slot → AtMost zero_amount (amount_of kind)
      → ((j : ℕ) → AtMost zero_amount ((after kind).flow j)) → (f g : ℕ → Bool) → ((j : ℕ) → f j ≡ true → g j ≡ true)
      → AtMost (arcs net f (after kind).flow x)
      (plus (arcs net g s.flow x) (amount_landing_by kind other x (amount_of kind)))
  arcs_pushed Forward x q n a f g i =
      let t = after Forward in
      AtMost-trans (arcs net f t.flow x) (arcs net g t.flow x)
      (plus (arcs net g s.flow x) (amount_landing_by Forward other x (amount_of Forward)))
      (arcs-most net f g t.flow t.flow x (λ j _ _ y. i j y) (λ j. AtMost-refl (t.flow j)) a)
      (arcs-plus net g s.flow x slot other (amount_of Forward) q.0 q.2 n)
  arcs_pushed Backward x q n a f g i =
      let t = after Backward in
      let less : (j : ℕ) → AtMost (t.flow j) (s.flow j) = with_value_at-each (λ j a. AtMost a (s.flow j)) s.flow slot
      (minus (s.flow slot) (amount_of Backward)) (AtMost-minus (s.flow slot) (amount_of Backward) n)
      (λ j _. AtMost-refl (s.flow j)) in
      joined (arcs-most net f g t.flow s.flow x (λ j _ _ y. i j y) less k.flow)
      (where_nonneg (other == x) (amount_of Backward) n)
      (record { w = omega (arith, ints); c = omega (arith, ints) })
  arcs_pushed _ x q n a f g i = same_arcs net s x k f g i

  -- the arcs of b that are steep end below the best port, where the block stands at most one label above it
  steep_low : s.label b ≤ label + 1 → (j : ℕ) → is_steep j ≡ true → is_low j ≡ true
  steep_low near j q = grind (arith, common_steps)

  same_label : (kind : PortKind) → (after kind).label ≡ s.label
  same_label kind = grind (arith, common_steps)

  same_source : (kind : PortKind) (x : ℕ) → x ≢ b → (after kind).source x ≡ s.source x
  same_source Source x ne = with_value_at-other s.source b (minus (s.source b) (amount_of Source)) x ne
  same_source _ x ne = refl

  same_sink : (kind : PortKind) (x : ℕ) → x ≢ b → (after kind).sink x ≡ s.sink x
  same_sink Sink x ne = with_value_at-other s.sink b (plus (s.sink b) (amount_of Sink)) x ne
  same_sink _ x ne = refl

  same_operation : (kind : PortKind) → (after kind).operation ≡ with_value_at s.operation b
      (TakeDue (amount_of kind) (port_with kind other slot))
  same_operation kind = grind (arith, common_steps)

  module _ (kind : PortKind) (e : s.operation b ≡ PushDue have (best_at kind)) (q : IsEnd net b kind other slot)
      (w : IsWithinBy net s b kind slot read) (walk : IsWalk net s b have [] (Some (best_at kind)))
      (a : (j : ℕ) → AtMost zero_amount ((after kind).flow j)) where
    nonneg : AtMost zero_amount (amount_of kind)
    nonneg = Below-most zero_amount (amount_of kind) (push_some net s b have kind slot read some w)

    calm : (x : ℕ) → x ≢ b → IsCalm net s (after kind) x
    calm x ne =
        let v = supply_at kind x e in
        let z = same (where_not (b == x) (amount_of kind) (ne_eqb b x (λ i. ne (sym i)))) in
        record {
          own = ap (λ (u : ℕ → ℕ). u x) (same_label kind);
          labels = λ i. rw (same_label kind) (omega arith);
          source = same_source kind x ne;
          sink = same_sink kind x ne;
          gain = amount_landing_by kind other x (amount_of kind);
          arcs_most = arcs_pushed kind x q nonneg a;
          supply_more = shifted (AtMost-refl zero_amount)
              (record { w = omega (arith, ints, v, z); c = omega (arith, ints, v, z) });
        }

    -- the bound at b, where it stands at most one label above the best port
    steep_near : s.label b ≤ label + 1 → AtMost (steep_capacity net (after kind) b) (supply net (after kind) b)
    steep_near near =
        room_left (steep_capacity net (after kind) b) (arcs net is_low s.flow b) (supply net s b)
        (supply net (after kind) b) have (amount_of kind) (amount_landing_by kind other b (amount_of kind))
        (subst (λ (u : ℕ → ℕ). AtMost (arcs net (λ j. nat_lt (u (from_at net.pairs j) + 1) (u b)) (after kind).flow b)
        (plus (arcs net is_low s.flow b) (amount_landing_by kind other b (amount_of kind))))
        (sym (same_label kind)) (arcs_pushed kind b q nonneg a is_steep is_low (steep_low near)))
        (walk.low_most) (push_most have kind read) (supply_own kind e)

    rest_of : AtMost (steep_capacity net (after kind) b) (supply net (after kind) b)
        → ((x : ℕ) → Below zero_amount (room net (after kind) x) → s.label x ≤ 1)
        → ((x : ℕ) → Below zero_amount ((after kind).source x) → s.label x ≤ length net.worths + 3)
        → ((x : ℕ) → ((after kind).source x ≡ positive (amount_at net.worths x))
        ⊎ (length net.worths + 2 < s.label x)) → HasLabels net (after kind)
    rest_of here sink source left =
        let t = after kind in
        record {
          forward = λ j i. rw (same_label kind) (h.forward j i);
          sink = λ x o. rw (same_label kind) (sink x o);
          source = λ x o. rw (same_label kind) (source x o);
          left = λ x. rw (same_label kind) (left x);
          steep_most = λ x. elim (cases_eq x b) [
            | inl at ↦ subst (λ (y : ℕ). AtMost (steep_capacity net t y) (supply net t y)) (sym at) here
            | inr ne ↦ steep_calm net s t x (calm x ne) (h.steep_most x)
          ];
          operation = subst (λ (u : ℕ → Operation Amount). (x : ℕ) → IsLevelled net t x (u x))
              (sym (same_operation kind))
              (with_value_at-each (λ i u. IsLevelled net t i u) s.operation b
              (TakeDue (amount_of kind) (port_with kind other slot)) tt
              (λ i ne. operation_calm net s t i (calm i ne) (s.operation i) (h.operation i)));
        }

  -- ---- by the kind of port
  module _ (e : s.operation b ≡ PushDue have (best_at Backward)) (q : IsEnd net b Backward other slot)
      (w : IsWithinBy net s b Backward slot read) (walk : IsWalk net s b have [] (Some (best_at Backward)))
      (a : (j : ℕ) → AtMost zero_amount ((after Backward).flow j)) where
    -- steep, where the best port counts by the label that was read
    abbrev is_high : ℕ → Bool
    is_high j = nat_lt (label_seen (Some (best_at Backward)) j (s.label (from_at net.pairs j)) + 1) (s.label b)

    -- the bound at b, where it stands higher: the best arc counts, and loses what is pushed
    steep_far : label + 1 < s.label b → AtMost (steep_capacity net (after Backward) b) (supply net (after Backward) b)
    steep_far far =
        let d = amount_of Backward in
        let t = after Backward in
        let n = nonneg Backward e q w walk a in
        let at : is_high slot ≡ true = rw (eq-eqb slot slot refl) (lt-ltb (label + 1) (s.label b) far) in
        let counted : ((to_at net.pairs slot == b) && is_high slot) ≡ true = and_from (to_at net.pairs slot == b)
        (is_high slot) (eq-eqb (to_at net.pairs slot) b q.1) at in
        let p = arcs-with_value_at net is_high s.flow b slot (minus (s.flow slot) d) q.0 in
        let x = same (where_at ((to_at net.pairs slot == b) && is_high slot) (s.flow slot) counted) in
        let y = same (where_at ((to_at net.pairs slot == b) && is_high slot) (minus (s.flow slot) d) counted) in
        let c : AtMost (steep_capacity net t b) (arcs net is_high t.flow b) = arcs-most net is_steep is_high t.flow
        t.flow b (λ j _ _ z. elim (cases_eq slot j) [
          | inl i ↦ subst (λ (m : ℕ). is_high m ≡ true) i at
          | inr ne ↦ rw (ne_eqb slot j ne) z
        ]) (λ j. AtMost-refl (t.flow j)) a in
        let high_is : AtMost (arcs net is_high s.flow b) (supply net s b) = walk.high_most in
        let v = supply_own Backward e in
        let g = where_nonneg (other == b) d n in
        record {
          worths = omega (arith, ints, p, x, y, c, high_is, v, g);
          counts = λ i. omega
              (arith, ints, p, x, y, c, high_is, v, g, i);
        }

  labels_pushed_by : (kind : PortKind) → s.operation b ≡ PushDue have (best_at kind) → IsEnd net b kind other slot
      → IsWithinBy net s b kind slot read → IsWalk net s b have [] (Some (best_at kind))
      → ((j : ℕ) → AtMost zero_amount ((after kind).flow j)) → HasLabels net (after kind)
  labels_pushed_by Sink e q w walk a =
      let d = amount_of Sink in
      rest_of Sink e q w walk a (steep_near Sink e q w walk a walk.level.near)
      (with_value_at-each (λ i c. Below zero_amount (minus (negative (amount_at net.worths i)) c) → s.label i ≤ 1)
      s.sink b (plus (s.sink b) d)
      (λ y. h.sink b (Below-more y
      (shifted (nonneg Sink e q w walk a) (record { w = omega (arith, ints); c = omega (arith, ints) }))))
      (λ i ne. h.sink i))
      h.source h.left
  labels_pushed_by Forward e q w walk a = rest_of Forward e q w walk a
      (steep_near Forward e q w walk a walk.level.near) h.sink h.source h.left
  labels_pushed_by Backward e q w walk a =
      rest_of Backward e q w walk a
      (elim (cases_lt (label + 1) (s.label b))
      [ inl far ↦ steep_far e q w walk a far | inr near ↦ steep_near Backward e q w walk a near ])
      h.sink h.source h.left
  labels_pushed_by Source e q w walk a =
      let d = amount_of Source in
      let near = walk.level.near in
      rest_of Source e q w walk a (steep_near Source e q w walk a near.0) h.sink
      (with_value_at-each (λ i c. Below zero_amount c → s.label i ≤ length net.worths + 3) s.source b
      (minus (s.source b) d) (λ y. h.source b
      (Below-more y (AtMost-minus (s.source b) d (nonneg Source e q w walk a)))) (λ i ne. h.source i))
      (with_value_at-each (λ i c. (c ≡ positive (amount_at net.worths i)) ⊎ (length net.worths + 2 < s.label i))
      s.source b (minus (s.source b) d) (inr (omega (arith, near.1, below))) (λ i ne. h.left i))

pub labels_pushed : (net : NetView) (s : State) (b : ℕ) → b < length net.worths → (have : Amount) (best : Best Amount)
    → s.operation b ≡ PushDue have best → Below zero_amount have → IsPortOf net b best.port
    → IsWithin net s b best.port best.capacity → IsWalk net s b have [] (Some best) → best.label < s.label b
    → HasAmounts net s → HasLabels net s
    → (let t : State = after_push s b (push_amount have best.port.kind best.capacity) best.port in
    ((j : ℕ) → AtMost zero_amount (t.flow j)) → HasLabels net t)
labels_pushed net s b l have best e some q w walk below k h a = grind (
  arith,
  common_steps,
  (labels_pushed_by net s b l have best.capacity best.label best.port.other best.port.slot
      some below k h best.port.kind e q w walk a),
)
