-- The step that is next for a block, as its word shows it: that the word doesn't wrap, and what the words show after.
use Rattle.fixed_worth.proofs.Common.{◌⊎◌, ◌≡◌, ◌≢◌, ℕ, ◌+◌, ◌<◌, ◌≤◌, ◌^◌, Bool, false, Some, None, List, All, length}
use Rattle.fixed_worth.proofs.Common.{get_or, set, refl, sym, subst, arith, get_or-set_other, slice_get, option_map}
use Rattle.fixed_worth.proofs.Common.{common_steps}
use lib.Seq.{set-get_or}
use Rattle.ordered_group.specs.Prelude.{Amount, plus, minus, negative, AtMost, amount_at}
use Rattle.ordered_group.proofs.Order.{AtMost-trans}
use Rattle.prec_file.specs.Rests.{IsKnown, from_at}
use Rattle.closure_net.specs.Prelude.{NetView, ports}
use Rattle.closure_net.specs.declared.port.Port.{Port}
use Rattle.closure_net.specs.declared.port.PortKind.{PortKind}
use Rattle.closure_net.specs.declared.port.PortKind.TheVariants.{Sink, Forward, Backward, Source}
use Rattle.machine_law.specs.declared.operations.Operation.{Operation}
use Rattle.machine_law.specs.declared.operations.Operation.TheVariants.{Idle, Scan, PushDue, TakeDue, GiveDue, RaiseDue}
use Rattle.machine_law.specs.Prelude.{best_as, operation_as, with_value_at, IsEnd, IsOperation, after_look}
use Rattle.machine_law.specs.Prelude.{after_label_at, after_push_by, after_give_by, advance_by, operation_begun_with}
use Rattle.machine_law.specs.Prelude.{all_given, IsWhole}
use Rattle.machine_law.specs.States as law
use Rattle.machine_law.proofs.Points.{with_value_at-same}
use Rattle.word_steps.specs.Prelude.{units, count, Cells, excess_at, flow_at, capacity_word, landing_word, word_of}
use Rattle.word_steps.specs.Prelude.{word_after, push_units, word_after_push, stopped_after, IsPlaced}
use Rattle.word_steps.proofs.Units.{units_most, units_minus, units_plus, less_room, fits_in}
use Rattle.word_steps.proofs.Cells.{cells_op, cells_excess, cells_flow, cells_label, cells_source, cells_room}
use Rattle.word_steps.proofs.Cells.{cells_at_source, cells_at_sink}
use Rattle.word_steps.proofs.Shows.{push_of_units, other_within}

-- ---- the word of a step takes what is written into it
abbrev pub push_fits : PortKind → ℕ → ℕ → Type 0
push_fits Forward d x = x + d < 2 ^ 64
push_fits _ d x = d ≤ x

abbrev pub Fits : Operation ℕ → ℕ → Type 0
Fits (PushDue have best) x = push_fits best.port.kind (push_units have best.port.kind best.capacity) x
Fits (TakeDue d port) x = d ≤ x
Fits (GiveDue d port) x = x + d < 2 ^ 63
Fits _ x = Unit {0}

pub placed : (net : NetView) (t : law.State) (b : ℕ) (o : Operation ℕ) → IsOperation net t b (operation_as units o)
    → IsPlaced net b o
placed net t b o h = grind (arith, common_steps)

module _ (net : NetView) (known : All (IsKnown (count net)) net.pairs) (t : law.State) (ws : List ℕ)
    (c : Cells net t ws) (b : ℕ) (lb : b < count net) where
  -- ---- the words after
  pushed_cells : (d : ℕ) (p : Port) (kind : PortKind) → IsEnd net b kind p.other p.slot
      → push_fits kind d (get_or ws (capacity_word net b kind p.slot) 0)
      → Cells net (after_push_by t b (units d) p kind)
      (set ws (capacity_word net b kind p.slot)
      (word_after_push kind d (get_or ws (capacity_word net b kind p.slot) 0)))
  pushed_cells d p Sink q f = cells_room net t ws c (with_value_at t.operation b (TakeDue (units d) p))
      (t.steps + 1) b _ (plus (t.sink b) (units d)) lb
      (less_room (negative (amount_at net.worths b)) (t.sink b) _ d (c.room b lb) f)
  pushed_cells d p Forward q f = cells_flow net t ws c (with_value_at t.operation b (TakeDue (units d) p))
      (t.steps + 1) p.slot _ (plus (t.flow p.slot) (units d)) q.0 (units_plus _ d (t.flow p.slot) (c.flow p.slot q.0))
  pushed_cells d p Backward q f = cells_flow net t ws c (with_value_at t.operation b (TakeDue (units d) p))
      (t.steps + 1) p.slot _ (minus (t.flow p.slot) (units d)) q.0
      (units_minus _ d (t.flow p.slot) (c.flow p.slot q.0) f)
  pushed_cells d p Source q f = cells_source net t ws c (with_value_at t.operation b (TakeDue (units d) p))
      (t.steps + 1) b _ (minus (t.source b) (units d)) lb (units_minus _ d (t.source b) (c.source b lb) f)

  given_cells : (d : ℕ) (p : Port) (kind : PortKind) → IsEnd net b kind p.other p.slot
      → Cells net (after_give_by t b (units d) p kind)
      (set ws (landing_word net kind p.other) (get_or ws (landing_word net kind p.other) 0 + d))
  given_cells d p Sink q = cells_at_sink net t ws c (with_value_at t.operation b Idle) (t.steps + 1) _
      (plus t.at_sink (units d)) (units_plus _ d t.at_sink c.at_sink)
  given_cells d p Forward q = let l = other_within net b Forward p.other p.slot known lb q in cells_excess net t ws c
      (with_value_at t.operation b Idle) (t.steps + 1) p.other _ (plus (t.excess p.other) (units d)) l
      (units_plus _ d (t.excess p.other) (c.excess p.other l))
  given_cells d p Backward q = let l = other_within net b Backward p.other p.slot known lb q in cells_excess net t ws
      c (with_value_at t.operation b Idle) (t.steps + 1) p.other _ (plus (t.excess p.other) (units d)) l
      (units_plus _ d (t.excess p.other) (c.excess p.other l))
  given_cells d p Source q = cells_at_source net t ws c (with_value_at t.operation b Idle) (t.steps + 1) _
      (plus t.at_source (units d)) (units_plus _ d t.at_source c.at_source)

  -- a step that changes no word
  read_cells : (o : Operation Amount) (i : ℕ)
      → Cells net (record t { operation = with_value_at t.operation b o; steps = t.steps + 1 })
      (set ws i (get_or ws i 0))
  read_cells o i = subst (Cells net (record t { operation = with_value_at t.operation b o; steps = t.steps + 1 }))
      (sym (set-get_or ws i 0)) (cells_op net t ws c (with_value_at t.operation b o) (t.steps + 1))

  pub cells_shown : (o : Operation ℕ) → IsPlaced net b o → Fits o (get_or ws (word_of net b o) 0)
      → Cells net (advance_by net t b (operation_as units o))
      (set ws (word_of net b o) (word_after o (get_or ws (word_of net b o) 0)))
  cells_shown Idle q f = read_cells (operation_begun_with (t.excess b)) (excess_at net b)
  cells_shown (Scan have place None best) q f = read_cells
      (after_look net t b (units have) place (option_map (best_as units) best) (slice_get (ports net b) place))
      (word_of net b (Scan have place None best))
  cells_shown (Scan have place (Some read) best) q f = read_cells
      (after_label_at net t b (units have) place (option_map (best_as units) best) (units read)
      (slice_get (ports net b) place)) (word_of net b (Scan have place (Some read) best))
  cells_shown (PushDue have best) q f = grind (arith, common_steps, push_of_units, pushed_cells)
  cells_shown (TakeDue d p) q f = cells_excess net t ws c (with_value_at t.operation b (GiveDue (units d) p))
      (t.steps + 1) b _ (minus (t.excess b) (units d)) lb (units_minus _ d (t.excess b) (c.excess b lb) f)
  cells_shown (GiveDue d p) q f = given_cells d p p.kind q
  cells_shown (RaiseDue have best) q f = cells_label net t ws c (with_value_at t.operation b Idle) (t.steps + 1) b
      (best.label + 1) lb

  -- ---- the word takes it

  -- no excess and no arrival passes what is given in all, after the step
  landed : (d : ℕ) (p : Port) (kind : PortKind) → IsEnd net b kind p.other p.slot
      → AtMost (all_given net) (units 9223372036854775807) → IsWhole net (after_give_by t b (units d) p kind)
      → get_or ws (landing_word net kind p.other) 0 + d < 2 ^ 63
  landed d p Sink q m w = let l = fits_in 9223372036854775807 _ (plus t.at_sink (units d)) (all_given net)
      (units_plus _ d t.at_sink c.at_sink) w.sink_most m in omega (arith, l)
  landed d p Forward q m w = grind (
    arith,
    common_steps,
    (other_within net b Forward p.other p.slot known lb q),
    (with_value_at-same t.excess p.other (plus (t.excess p.other) (units d))),
    (units_plus _ d (t.excess p.other) (c.excess p.other (other_within net b Forward p.other p.slot known lb q))),
  )
  landed d p Backward q m w = grind (
    arith,
    common_steps,
    (other_within net b Backward p.other p.slot known lb q),
    (with_value_at-same t.excess p.other (plus (t.excess p.other) (units d))),
    (units_plus _ d (t.excess p.other) (c.excess p.other (other_within net b Backward p.other p.slot known lb q))),
  )
  landed d p Source q m w = let l = fits_in 9223372036854775807 _ (plus t.at_source (units d)) (all_given net)
      (units_plus _ d t.at_source c.at_source) w.source_most m in omega (arith, l)

  -- a push is below 2^63 units
  have_small : (have : ℕ) → AtMost (all_given net) (units 9223372036854775807) → IsWhole net t
      → AtMost (units have) (t.excess b) → have < 2 ^ 63
  have_small have m w h = let l = fits_in 9223372036854775807 have (units have) (all_given net) refl
      (AtMost-trans (units have) (t.excess b) (all_given net) h (w.excess_most b lb)) m in omega (arith, l)

  pub fits : (o : Operation ℕ) → IsOperation net t b (operation_as units o)
      → AtMost (all_given net) (units 9223372036854775807) → IsWhole net t
      → IsWhole net (advance_by net t b (operation_as units o))
      → ((k : ℕ) → k < length net.pairs → from_at net.pairs k ≡ b → get_or ws (flow_at net k) 0 < 2 ^ 63)
      → Fits o (get_or ws (word_of net b o) 0)
  fits o h m w u flow = grind (arith, common_steps, have_small, units_most, landed)

  -- ---- the flows after
  elsewhere : (i v k : ℕ) → flow_at net k ≢ i → get_or ws (flow_at net k) 0 < 2 ^ 63
      → get_or (set ws i v) (flow_at net k) 0 < 2 ^ 63
  elsewhere i v k ne h = subst (λ (z : ℕ). z < 2 ^ 63) (sym (get_or-set_other ws i (flow_at net k) v 0 ne)) h

  lower : (i v k : ℕ) → i < length ws → v ≤ get_or ws i 0 → get_or ws (flow_at net k) 0 < 2 ^ 63
      → get_or (set ws i v) (flow_at net k) 0 < 2 ^ 63
  lower i v k l le h = grind (arith, common_steps)

  abbrev Excused : Bool → ℕ → Type 0
  Excused stopped k = (stopped ≡ false) ⊎ (from_at net.pairs k ≢ b)

  pub flow_shown : (o : Operation ℕ) → IsPlaced net b o → (k : ℕ) → k < length net.pairs
      → Excused (stopped_after o (get_or ws (word_of net b o) 0)) k → get_or ws (flow_at net k) 0 < 2 ^ 63
      → get_or (set ws (word_of net b o) (word_after o (get_or ws (word_of net b o) 0))) (flow_at net k) 0 < 2 ^ 63
  flow_shown o q k l x h = grind (arith, common_steps)
