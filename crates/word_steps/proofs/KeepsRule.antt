-- A turn keeps the rule: one operation on one word is the step of the machine that is next for the block.
use Rattle.fixed_worth.proofs.Common.{inl, inr, ◌≡◌, ◌≢◌, ℕ, ◌+◌, ◌<◌, ◌^◌, true, List, [], ◌∷◌, ◌++◌, All, length}
use Rattle.fixed_worth.proofs.Common.{get_or, set, get_or-set_same, refl, ap, sym, ◌∙◌, subst, arith, cases_eq}
use Rattle.fixed_worth.proofs.Common.{ltb-true, common_steps}
use mathlib.Core.Option.{none, some}
use lib.ListN.{get_elem?}
use Rattle.atomic_table.specs.Table.{State, step, Allows}
use Rattle.prec_file.specs.Rests.{IsKnown, from_at}
use Rattle.closure_net.specs.Network.{NetView}
use Rattle.machine_law.specs.declared.events.Event.{Event}
use Rattle.machine_law.specs.declared.operations.Operation.{Operation}
use Rattle.machine_law.specs.declared.operations.Operation.TheVariants.{PushDue}
use Rattle.closure_net.specs.declared.port.Port.{Port}
use Rattle.closure_net.specs.declared.port.PortKind.{PortKind}
use Rattle.closure_net.specs.declared.port.PortKind.TheVariants.{Forward}
use Rattle.machine_law.specs.Prelude.{IsEnd, operation_as, with_value_at, opening, Step, Run, advance_by, next_of}
use Rattle.machine_law.specs.Prelude.{IsOperation}
use Rattle.machine_law.specs.States as law
use Rattle.machine_law.proofs.Points.{with_value_at-same, with_value_at-other}
use Rattle.machine_law.proofs.Law.{runs_keep_law}
use Rattle.machine_law.proofs.Runs.{run_more}
use Rattle.machine_law.proofs.Conserved.{runs_conserve}
use Rattle.word_steps.specs.declared.view.View.{View}
use Rattle.word_steps.specs.Prelude.{units, count, Cells, flow_at, word_of, word_after, after, capacity_word}
use Rattle.word_steps.specs.Prelude.{push_units, word_after_push, IsRuled, Sees, IsSeatsOwn, Sat, stopped_after}
use Rattle.word_steps.specs.Prelude.{event_of_operation, view_after_turn, TurnsSeat, IsPlaced, CanTurn}
use Rattle.word_steps.specs.Prelude.{is_word_overfull, RaisesTooFar, SomeFlowIsTooLarge, SomeLabelIsTooLarge, IsLargeBy}
use Rattle.word_steps.proofs.Units.{units_above}
use Rattle.word_steps.proofs.Shows.{operation_shown, labels_shown, labels_else}
use Rattle.word_steps.proofs.Writes.{Fits, fits, placed, cells_shown, flow_shown}
use Rattle.word_steps.proofs.SeatViews.{seats_set, operation_here, operation_else, shown_here, shown_else, block_is}
use Rattle.word_steps.proofs.SeatViews.{made_more}

module _ (s : State (Unit {0}) View) (id b : ℕ) (v : View) (q : CanTurn v b) (r : IsRuled v.net s)
    (at : get_elem? s.views id ≡ some v) where
  abbrev net : NetView
  net = v.net

  abbrev o : Operation ℕ
  o = v.operation

  abbrev t : law.State
  t = r.machine

  abbrev u : law.State
  u = advance_by net t b (operation_as units o)

  abbrev i : ℕ
  i = word_of net b o

  abbrev x : ℕ
  x = get_or s.words i 0

  abbrev e : Event
  e = event_of_operation net b o

  known : All (IsKnown (count net)) net.pairs
  known = r.is_net.rests.known

  mine : Sees net t r.owner s.words id v
  mine = r.seats id v at

  was : t.operation b ≡ operation_as units o
  was = mine.operation b q.block q.own ∙ ap (operation_as units) (shown_here v b q)

  steps : Step net t e u
  steps = record { block = q.block; kind = ap (next_of net b) was; after = sym (ap (advance_by net t b) was) }

  runs : Run net (opening net) (r.events ++ e ∷ []) u
  runs = run_more net (opening net) r.events e t u r.run steps

  lawful : IsOperation net t b (operation_as units o)
  lawful = subst (IsOperation net t b) was ((runs_keep_law net r.events t r.run).amounts.operation b)

  own_flow : (k : ℕ) → k < length net.pairs → from_at net.pairs k ≡ b → get_or s.words (flow_at net k) 0 < 2 ^ 63
  own_flow k l f = mine.flow k l (subst (IsSeatsOwn v) (sym f) q.own) q.runs

  pub fit : Fits o x
  fit = fits net known t s.words r.cells b q.block o lawful r.small (runs_conserve net r.events t known r.run)
      (runs_conserve net (r.events ++ e ∷ []) u known runs) own_flow

  operation_is : u.operation ≡ with_value_at t.operation b (operation_as units (after net b (get_or v.labels b 0) o x))
  operation_is = operation_shown net known t s.words r.cells b q.block o
      ∙ ap (λ (l : ℕ). with_value_at t.operation b (operation_as units (after net b l o x)))
      (mine.label b q.block q.own q.runs)

  pub placed_after : IsPlaced net b (view_after_turn b v x).operation
  placed_after = placed net u b (view_after_turn b v x).operation
      (subst (IsOperation net u b) (ap (λ (f : ℕ → _). f b) operation_is ∙ with_value_at-same t.operation b _)
      ((runs_keep_law net (r.events ++ e ∷ []) u runs).amounts.operation b))

  apart : (j : ℕ) (y : View) → j ≢ id → get_elem? s.views j ≡ some y → (c : ℕ) → c < count net → IsSeatsOwn y c → c ≢ b
  apart j y ne at' c l own is = ne (sym ((r.seats j y at').owns c l own) ∙ ap r.owner is ∙ mine.owns b q.block q.own)

  sees_mine : Sees net u r.owner (set s.words i (word_after o x)) id (view_after_turn b v x)
  sees_mine = record {
    owns = λ c l own. mine.owns c l (record { live = own.live; serves = own.serves });
    operation = λ c l own. elim (cases_eq c b) [
      | inl is ↦ ap (λ (f : ℕ → _). f c) operation_is ∙ ap (with_value_at t.operation b _) is
          ∙ with_value_at-same t.operation b _
          ∙ ap (operation_as units) (sym (operation_here (view_after_turn b v x) c (sym is)))
      | inr ne ↦
          ap (λ (f : ℕ → _). f c) operation_is ∙ with_value_at-other t.operation b _ c ne
          ∙ mine.operation c l (record { live = own.live; serves = own.serves })
          ∙ ap (operation_as units)
          (shown_else v b c q ne ∙ sym (operation_else (view_after_turn b v x) c (λ h. ne (sym h))))
    ];
    label = λ c l own run. labels_shown net known t s.words r.cells b q.block o v.labels
        (let w = q.wide in let lb = q.block in omega (arith, w, lb)) c
        (mine.label c l (record { live = own.live; serves = own.serves }) q.runs);
    flow = λ k l own run. flow_shown net known t s.words r.cells b q.block o (placed net t b o lawful) k l (inl run)
        (mine.flow k l (record { live = own.live; serves = own.serves }) q.runs);
  }

  sees_other : (j : ℕ) (y : View) → j ≢ id → get_elem? s.views j ≡ some y
      → Sees net u r.owner (set s.words i (word_after o x)) j y
  sees_other j y ne at' =
      let old = r.seats j y at' in
      record {
        owns = old.owns;
        operation = λ c l own. ap (λ (f : ℕ → _). f c) operation_is
            ∙ with_value_at-other t.operation b _ c (apart j y ne at' c l own) ∙ old.operation c l own;
        label = λ c l own run. labels_else net known t s.words r.cells b q.block o c (apart j y ne at' c l own)
            ∙ old.label c l own run;
        flow = λ k l own run. flow_shown net known t s.words r.cells b q.block o (placed net t b o lawful) k l
            (inr (apart j y ne at' (from_at net.pairs k) (known k (0, 0) l).0 own)) (old.flow k l own run);
      }

  pub keeps_rule : (homes : List _)
      → IsRuled net (record {
        words = set s.words i (word_after o x);
        homes = homes;
        views = set s.views id
            (view_after_turn b v x);
      })
  keeps_rule homes = record {
    events = r.events ++ e ∷ [];
    machine = u;
    owner = r.owner;
    is_net = r.is_net;
    small = r.small;
    run = runs;
    made = made_more net r.events e s.views id v (view_after_turn b v x) r.made at
        (λ j y ne at' c l own. apart j y ne at' c l own) refl q.own
        (λ c. (
          λ own. record { live = own.live; serves = own.serves },
          λ own. record
              { live = own.live; serves = own.serves },
        ));
    cells = cells_shown net known t s.words r.cells b q.block o (placed net t b o lawful) fit;
    seats = seats_set (λ j y. Sees net u r.owner (set s.words i (word_after o x)) j y) s.views id
        (view_after_turn b v x) sees_mine sees_other;
  }

  -- the state after the step, where its numbers are too large
  pushed_far : (have : ℕ) (p : Port) (kind : PortKind) (k : ℕ) → IsEnd net b kind p.other p.slot
      → is_word_overfull kind have (get_or s.words (capacity_word net b kind p.slot) 0) ≡ true → (v' : law.State)
      → Run net (opening net) (r.events ++ e ∷ []) v'
      → Cells net v' (set s.words (capacity_word net b kind p.slot)
      (word_after_push kind (push_units have kind k) (get_or s.words (capacity_word net b kind p.slot) 0)))
      → SomeFlowIsTooLarge net
  pushed_far have p Forward k h f v' run c = grind (
    arith,
    common_steps,
    (flow_at net p.slot),
    r.cells.wide,
    h.0,
    (get_or s.words (flow_at net p.slot) 0 + have),
    (ltb-true 9223372036854775807 (get_or s.words (flow_at net p.slot) 0 + have) f),
    (c.flow p.slot h.0 ∙ ap units
        (get_or-set_same s.words (flow_at net p.slot) (get_or s.words (flow_at net p.slot) 0 + have) 0
        (omega (arith, (r.cells.wide), (h.0))))),
    (get_or-set_same s.words (flow_at net p.slot) (get_or s.words (flow_at net p.slot) 0 + have) 0
        (omega (arith, (r.cells.wide), (h.0)))),
    (units_above 9223372036854775808 (get_or s.words (flow_at net p.slot) 0 + have)
        (omega (arith, (ltb-true 9223372036854775807 (get_or s.words (flow_at net p.slot) 0 + have) f)))),
  )
  pushed_far have p kind k h f v' run c = absurd cc

  flow_far : (z : Operation ℕ) → o ≡ z → IsPlaced net b z → stopped_after z (get_or s.words (word_of net b z) 0)
      ≡ true → SomeFlowIsTooLarge net
  flow_far (PushDue have best) is h f =
      pushed_far have best.port best.port.kind best.capacity h f u runs
      (subst (λ (z : Operation ℕ). Cells net u
      (set s.words (word_of net b z) (word_after z (get_or s.words (word_of net b z) 0)))) is
      (cells_shown net known t s.words r.cells b q.block o (placed net t b o lawful) fit))
  flow_far z is h f = absurd cc

  label_far : (z : Operation ℕ) → u.operation b ≡ operation_as units z → RaisesTooFar z → SomeLabelIsTooLarge net
  label_far z is h = grind (arith, common_steps, runs, known)

  pub large_by : IsLargeBy net (view_after_turn b v x).stopped (view_after_turn b v x).operation
  large_by = record {
    flow = flow_far o refl (placed net t b o lawful);
    label = label_far (view_after_turn b v x).operation (ap (λ (f : ℕ → _). f b) operation_is
        ∙ with_value_at-same t.operation b _);
  }

-- any operation on the word that writes what the step writes
pub turns : (slots id a b : ℕ) (me : Sat) (f : ℕ → ℕ) → CanTurn me.0 b
    → ((x : ℕ) → x < 2 ^ 64 → Fits me.0.operation x → f x ≡ word_after me.0.operation x)
    → Allows (IsRuled me.0.net) slots id me (word_of me.0.net b me.0.operation) f
    (TurnsSeat (step slots (word_of me.0.net b me.0.operation) a 0 none) me)
turns slots id a b me f q writes s r _ at small = grind (
  arith,
  common_steps,
  me.0,
  (word_of (me.0).net b (me.0).operation),
  (get_or s.words (word_of (me.0).net b (me.0).operation) 0),
  (writes (get_or s.words (word_of (me.0).net b (me.0).operation) 0) small (fit s id b (me.0) q r at)),
  (fit s id b (me.0) q r at),
  (block_is (me.0) b q),
  (keeps_rule s id b (me.0) q r at s.homes),
  (placed_after s id b (me.0) q r at),
  (large_by s id b (me.0) q r at),
)
