-- What a step leads to, by the operation of its block.
use Rattle.fixed_worth.proofs.Common.{◌≡◌, ℕ, ◌<◌, Bool, true, false, refl, Option, Some, None, [], ◌∷◌, ◌++◌, length}
use Rattle.fixed_worth.proofs.Common.{Result, Ok, Err, sym, ap, subst, ◌∙◌, slice_get, MatchResult}
use Rattle.ordered_group.specs.Amount.{Amount}
use Rattle.closure_net.specs.Prelude.{NetView, ports}
use Rattle.closure_net.specs.declared.port.Port.{Port}
use Rattle.closure_net.specs.declared.port.PortKind.{PortKind}
use Rattle.closure_net.specs.declared.port.PortKind.TheVariants.{Sink}
use Rattle.machine_law.specs.declared.events.Event.{Event}
use Rattle.machine_law.specs.declared.operations.Best.{Best}
use Rattle.machine_law.specs.declared.operations.Operation.{Operation}
use Rattle.machine_law.specs.declared.operations.Operation.TheVariants.{Scan, PushDue, GiveDue}
use Rattle.machine_law.specs.Prelude.{end_label, IsPortOf, Step, with_operation, after_label_at, after_look}
use Rattle.machine_law.specs.Prelude.{after_look_by, next_kind, advance_by, advance, HasAmounts, IsOperation}
use Rattle.machine_law.specs.Prelude.{LooksAtPort}
use Rattle.machine_law.proofs.Law.{runs_keep_law}
use Rattle.machine_law.proofs.Runs.{run_more}
use Rattle.async_step.specs.Prelude.{StateView, state_of, IsScanAt, after_label_by, operation_after_look, IsStateOf}
use Rattle.async_step.specs.Prelude.{LeadsTelling, answer_of, answer_at, answer_by, answer_beyond, answer, saw_as}
use Rattle.async_step.specs.Prelude.{IsStepTaken, IsStepRefused}
use Rattle.async_step.specs.declared.saw.Saw.{Saw}
use Rattle.async_step.specs.declared.saw.Saw.TheVariants.{Label}
use Rattle.async_step.specs.declared.refusals.StepRefusal.{StepRefusal}
use Rattle.async_step.specs.declared.refusals.StepRefusal.TheVariants.{TooLarge, TooManySteps}

-- ---- what a state of a run has
amounts_of : (net : NetView) (v : StateView) → IsStateOf net v → HasAmounts net (state_of v)
amounts_of net v over = (runs_keep_law net over.reached.events (state_of v) over.reached.run).amounts

pub scan_inside : (net : NetView) (v : StateView) (b : ℕ) (have : Amount) (place : ℕ) (read : Option Amount)
    (best : Option (Best Amount)) → IsStateOf net v → Scan have place read best ≡ (state_of v).operation b
    → place < length (ports net b)
scan_inside net v b have place read best over e =
    (subst (IsOperation net (state_of v) b) (sym e) ((amounts_of net v over).operation b)).inside

within_of : (net : NetView) (v : StateView) (b place : ℕ) (is_read : Bool) (o : Operation Amount) → IsStateOf net v
    → IsScanAt place is_read o → o ≡ (state_of v).operation b → place < length (ports net b)
within_of net v b place is_read (Scan have here read best) over at e = subst (λ n. n < length (ports net b)) at.0
    (scan_inside net v b have here read best over e)
within_of net v b place is_read _ over at e = absurd at

pub scan_within : (net : NetView) (v : StateView) (b place : ℕ) (is_read : Bool) → IsStateOf net v
    → IsScanAt place is_read ((state_of v).operation b) → place < length (ports net b)
scan_within net v b place is_read over at = within_of net v b place is_read ((state_of v).operation b) over at refl

pub scan_is : {N : Type 0} (n place : ℕ) (is_read : Bool) (o : Operation N) → IsScanAt place is_read o → place < n
    → LooksAtPort n o
scan_is n place is_read (Scan have here read best) at l = subst (λ m. m < n) (sym at.0) l
scan_is n place is_read _ at l = at

pub push_port : (net : NetView) (v : StateView) (b : ℕ) (have : Amount) (best : Best Amount) → IsStateOf net v
    → PushDue have best ≡ (state_of v).operation b → IsPortOf net b best.port
push_port net v b have best over e =
    (subst (IsOperation net (state_of v) b) (sym e) ((amounts_of net v over).operation b)).over.port

pub give_port : (net : NetView) (v : StateView) (b : ℕ) (d : Amount) (port : Port) → IsStateOf net v
    → GiveDue d port ≡ (state_of v).operation b → IsPortOf net b port
give_port net v b d port over e =
    (subst (IsOperation net (state_of v) b) (sym e) ((amounts_of net v over).operation b)).1

-- ---- the step that is next
module _ {N : Type 0} (f : N → Amount) (net : NetView) (v w : StateView) (b : ℕ) (r : Result (Saw N) StepRefusal) where
  pub turn : (o : Operation Amount) → o ≡ (state_of v).operation b
      → LeadsTelling f net v (advance_by net (state_of v) b o) (answer_of net (state_of v) b o) w r
      → LeadsTelling f net v (advance net (state_of v) b) (answer net (state_of v) b) w r
  turn o e h = subst (λ (x : Operation Amount). LeadsTelling f net v (advance_by net (state_of v) b x)
      (answer_of net (state_of v) b x) w r) e h

  -- at the port at a place, whose capacity is read
  pub scan_reads : (place : ℕ) (port : Port) (o : Operation Amount) → IsScanAt place true o
      → slice_get (ports net b) place ≡ Some port
      → LeadsTelling f net v (with_operation (state_of v) b
      (after_label_by (length (ports net b)) ((state_of v).label b) port (end_label net (state_of v) port) o))
      (Label (end_label net (state_of v) port)) w r
      → LeadsTelling f net v (advance_by net (state_of v) b o) (answer_of net (state_of v) b o) w r
  scan_reads place port (Scan have here None best) at p h = absurd (let q : false ≡ true = at.1 in cc)
  scan_reads place port (Scan have here (Some read) best) at p h =
      subst (λ (q : Option Port). LeadsTelling f net v
      (with_operation (state_of v) b (after_label_at net (state_of v) b have here best read q))
      (answer_beyond net (state_of v) q) w r) (sym (ap (slice_get (ports net b)) at.0 ∙ p)) h
  scan_reads place port _ at p h = absurd at

  looks_as : (have : Amount) (place : ℕ) (best : Option (Best Amount)) (port : Port) (k : PortKind)
      → operation_after_look net (state_of v) b port k (Scan have place None best) ≡ after_look_by net
      (state_of v) b have place best port k
  looks_as have place best port Sink = refl
  looks_as have place best port _ = refl

  -- or isn't
  pub scan_looks : (place : ℕ) (port : Port) (o : Operation Amount) → IsScanAt place false o
      → slice_get (ports net b) place ≡ Some port
      → LeadsTelling f net v (with_operation (state_of v) b
      (operation_after_look net (state_of v) b port port.kind o)) (answer_by net (state_of v) b port port.kind) w r
      → LeadsTelling f net v (advance_by net (state_of v) b o) (answer_of net (state_of v) b o) w r
  scan_looks place port (Scan have here None best) at p h =
      subst (λ (q : Option Port). LeadsTelling f net v
      (with_operation (state_of v) b (after_look net (state_of v) b have here best q))
      (answer_at net (state_of v) b q) w r) (sym (ap (slice_get (ports net b)) at.0 ∙ p))
      (subst (λ (x : Operation Amount). LeadsTelling f net v (with_operation (state_of v) b x)
      (answer_by net (state_of v) b port port.kind) w r) (looks_as have here best port port.kind) h)
  scan_looks place port (Scan have here (Some read) best) at p h = absurd (let q : true ≡ false = at.1 in cc)
  scan_looks place port _ at p h = absurd at

-- a step that is made, or refused
pub stepped : {N : Type 0} (f : N → Amount) (net : NetView) (v w : StateView) (e : Event)
    (r : Result (Saw N) StepRefusal) → IsStateOf net v → e.block < length net.worths
    → next_kind net (state_of v) e.block ≡ e.kind
    → LeadsTelling f net v (advance net (state_of v) e.block) (answer net (state_of v) e.block) w r
    → MatchResult r (λ saw. IsStepTaken net v e w (saw_as f saw)) (λ x. IsStepRefused net v e w x)
stepped f net v w e (Ok saw) over l k h =
    let step : Step net (state_of v) e (state_of w) = record { block = l; kind = k; after = h.0.state } in
    record {
      step = step;
      saw_is = h.1;
      counted = h.0.counted;
      state = record {
        blocks = h.0.blocks ∙ over.blocks;
        pairs = h.0.pairs ∙ over.pairs;
        reached = record {
          events = over.reached.events ++ e ∷ [];
          run = run_more net _ over.reached.events e
              (state_of v) (state_of w) over.reached.run step;
        };
        fits = h.0.fits;
      };
    }
stepped f net v w e (Err TooLarge) over l k h = record
    { same = h.same; stands = (record { block = l; kind = k }, h.why) }
stepped f net v w e (Err TooManySteps) over l k h = record
    { same = h.same; stands = (record { block = l; kind = k }, h.why.0, h.why.1) }
stepped f net v w e _ over l k h = absurd h.why

-- either way the state is one of a run
pub still_state : {N : Type 0} (f : N → Amount) (net : NetView) (v w : StateView) (e : Event)
    (r : Result (Saw N) StepRefusal) → IsStateOf net v
    → MatchResult r (λ saw. IsStepTaken net v e w (saw_as f saw)) (λ x. IsStepRefused net v e w x) → IsStateOf net w
still_state f net v w e (Ok saw) over h = h.state
still_state f net v w e (Err x) over h = subst (IsStateOf net) (sym h.same) over
