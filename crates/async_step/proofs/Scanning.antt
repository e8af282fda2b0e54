-- A block's look at its ports, in the place of its operation.
use Rattle.fixed_worth.proofs.Common.{◌≡◌, ℕ, ◌+◌, ◌<◌, Bool, true, false, if◌then◌else◌, Some, None, List, length}
use Rattle.fixed_worth.proofs.Common.{get_or, set, map, sym, refl, ap, ap₂, subst, arith, get_or-set_same, ◌∙◌, nat_lt}
use Rattle.fixed_worth.proofs.Common.{slice_index, map-set, get_or-map, get_or_read, length-map}
use Rattle.ordered_group.specs.Amount.{Amount}
use Rattle.closure_net.specs.declared.port.Port.{Port}
use Rattle.machine_law.specs.declared.operations.Best.{Best}
use Rattle.machine_law.specs.declared.operations.Operation.{Operation}
use Rattle.machine_law.specs.declared.operations.Operation.TheVariants.{Idle, Scan, PushDue, RaiseDue}
use Rattle.machine_law.specs.Prelude.{operation_as, is_idle, after_last_port, after_port, LooksAtPort}
use Rattle.async_step.specs.Prelude.{StateView, operation_at, after_label_by}

-- an operation looks at one of so many ports where it does so with its amounts turned by f
pub scan_under : {N M : Type 0} (f : N → M) (n : ℕ) (o : Operation N) → LooksAtPort n (operation_as f o)
    → LooksAtPort n o
scan_under f n Idle h = h
scan_under f n _ h = h

-- it isn't over while a port is looked at, nor once a port was chosen
pub scan_works : {N : Type 0} (n : ℕ) (o : Operation N) → LooksAtPort n o → is_idle o ≡ false
scan_works n Idle h = absurd h
scan_works n _ h = refl

either_works : {N : Type 0} (t : Bool) (o p : Operation N) → is_idle o ≡ false → is_idle p ≡ false
    → is_idle (if t then o else p) ≡ false
either_works true o p h k = h
either_works false o p h k = k

ended_works : {N : Type 0} (label : ℕ) (have : N) (best : Best N) → is_idle (after_last_port label have (Some best))
    ≡ false
ended_works label have best = either_works (nat_lt best.label label) (PushDue have best) (RaiseDue have best) refl refl

passed_works : {N : Type 0} (n label : ℕ) (have : N) (place : ℕ) (best : Best N)
    → is_idle (after_port n label have place (Some best)) ≡ false
passed_works n label have place best = either_works (nat_lt (place + 1) n) (Scan have (place + 1) None (Some best))
    (after_last_port label have (Some best)) refl (ended_works label have best)

pub chosen_works : (n label : ℕ) (port : Port) (beyond : ℕ) (o : Operation Amount) → LooksAtPort n o
    → is_idle (after_label_by n label port beyond o) ≡ false
chosen_works n label port beyond Idle h = absurd h
chosen_works n label port beyond (Scan have place read best) h = passed_works n label have place _
chosen_works n label port beyond _ h = refl

-- ---- in its place

-- the operation of block b becomes o, in a list whose amounts are those of v
pub record IsStepped {N : Type 0} (f : N → Amount) (v : StateView) (os : List (Operation N)) (b : ℕ) (y : Operation N)
    (o : Operation Amount) : Type 0 where
  pub within : b < length v.operation
  pub inside : b < length os
  pub here : operation_as f y ≡ o
  pub list : map (operation_as f) (set os b y) ≡ set v.operation b o

pub idle_now : {N : Type 0} (f : N → Amount) (v : StateView) (os : List (Operation N)) (b : ℕ) (y z : Operation N)
    (o : Operation Amount) (t : Bool) → IsStepped f v os b y o → z ≡ get_or (set os b y) b z
    → t ≡ is_idle (operation_as f z) → t ≡ is_idle o
idle_now f v os b y z o t s at e = e ∙ ap (λ x. is_idle (operation_as f x)) (at ∙ get_or-set_same os b y z s.inside)
    ∙ ap is_idle s.here

module _ {N : Type 0} (f : N → Amount) (v w : StateView) (os : List (Operation N)) (b : ℕ) (x : Operation N)
    (is : map (operation_as f) os ≡ v.operation) (same : v ≡ w) (block : b < length w.operation)
    (at : x ≡ get_or os b x) where
  within : b < length v.operation
  within = subst (λ (u : StateView). b < length u.operation) (sym same) block

  inside : b < length os
  inside = let k = within in let n = ap length is in omega (arith, k, n, length-map os (operation_as f))

  was : operation_as f x ≡ operation_at v.operation b
  was = ap (operation_as f) at ∙ sym (get_or-map (operation_as f) os b x Idle inside)
      ∙ ap (λ (us : List (Operation Amount)). operation_at us b) is

  pub scan_in_place : (n : ℕ) → LooksAtPort n (operation_at w.operation b) → LooksAtPort n x
  scan_in_place n h = scan_under f n x
      (subst (LooksAtPort n) (sym was)
      (subst (λ (u : StateView). LooksAtPort n (operation_at u.operation b)) (sym same) h))

  -- a step that reads the block's label
  pub step_in_place : (step : ℕ → Operation Amount → Operation Amount) (own : ℕ) (y : Operation N)
      → length v.label ≡ length v.operation → own ≡ get_or v.label b own
      → operation_as f y ≡ step own (operation_as f x)
      → IsStepped f v os b y (step (slice_index v.label b) (operation_at v.operation b))
  step_in_place step own y sized label saw =
      let k = within in
      let now : operation_as f y ≡ step (slice_index v.label b) (operation_at v.operation b) = saw
      ∙ ap₂ step (get_or_read v.label b own (omega (arith, k, sized)) label 0) was in
      record {
        within = within;
        inside = inside;
        here = now;
        list = map-set (operation_as f) os b y
            ∙ ap₂ (λ (us : List (Operation Amount)) (o : Operation Amount). set us b o) is now;
      }

pub becomes : (v w : StateView) (os : List (Operation Amount)) (b : ℕ)
    (step : ℕ → Operation Amount → Operation Amount) → v ≡ w
    → os ≡ set v.operation b (step (slice_index v.label b) (operation_at v.operation b))
    → record v { operation = os; steps = v.steps + 1 }
    ≡ record w {
      operation = set w.operation b (step (slice_index w.label b) (operation_at w.operation b));
      steps = w.steps + 1;
    }
becomes v w os b step same e =
    ap (λ (us : List (Operation Amount)). record v { operation = us; steps = v.steps + 1 }) e
    ∙ ap (λ (u : StateView). record u {
      operation = set u.operation b (step (slice_index u.label b) (operation_at u.operation b));
      steps = u.steps
          + 1;
    }) same
