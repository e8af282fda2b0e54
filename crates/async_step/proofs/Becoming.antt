-- What a step leaves, as lists.
use Rattle.fixed_worth.proofs.Common.{◌≡◌, Result, Err, MatchResult, ◌↔◌, IsTrue, Bool, false, ℕ, ◌+◌, ◌<◌, ◌≤◌, ◌^◌}
use Rattle.fixed_worth.proofs.Common.{List, length, get_or, set, sym, refl, ap, subst, ◌∙◌, arith, length-set}
use Rattle.fixed_worth.proofs.Common.{get_or-set_same, get_or-set_other, fun_ext, cases_eq, common_steps}
use Rattle.ordered_group.specs.Prelude.{Amount, zero_amount, minus, negative, FitsPair, amount_at}
use Rattle.closure_net.specs.Network.{NetView}
use Rattle.machine_law.specs.declared.operations.Operation.{Operation}
use Rattle.machine_law.specs.declared.operations.Operation.TheVariants.{Idle}
use Rattle.machine_law.specs.Prelude.{State, with_value_at, with_operation}
use Rattle.machine_law.proofs.Points.{with_value_at-same, with_value_at-other, with_value_at-each}
use Rattle.async_step.specs.declared.limits.TheConstants.{MOST_STEPS}
use Rattle.async_step.specs.Prelude.{StateView, state_of, operation_at, IsSized, Fits, IsStateOf, GoesTo, StateStays}
use Rattle.async_step.specs.Prelude.{CanChange, after_change, lists_after_change}
use Rattle.async_step.specs.declared.changing.Change.{Change}
use Rattle.async_step.specs.declared.changing.Change.TheVariants.{Nothing, Excess, Label, Source, Sink, Flow, AtSource}
use Rattle.async_step.specs.declared.changing.Change.TheVariants.{AtSink}
use Rattle.async_step.specs.declared.refusals.StepRefusal.{StepRefusal}
use Rattle.async_step.specs.declared.refusals.StepRefusal.TheVariants.{TooLarge}

-- a list with another element, as a function from its places
places-set : {X : Type 0} (xs : List X) (k : ℕ) (v d : X) → k < length xs
    → (λ i. get_or (set xs k v) i d) ≡ with_value_at (λ i. get_or xs i d) k v
places-set xs k v d h = grind
    (arith, common_steps, fun_ext, cases_eq, get_or-set_same, with_value_at-same, get_or-set_other, with_value_at-other)

-- a changed number that fits
fits_with_value_at : (f : ℕ → Amount) (k : ℕ) (v : Amount) → ((i : ℕ) → FitsPair (f i)) → FitsPair v → (i : ℕ)
    → FitsPair (with_value_at f k v i)
fits_with_value_at f k v h e = with_value_at-each (λ i a. FitsPair a) f k v e (λ i _. h i)

-- and what the changed number is
pub fits_value : (f : ℕ → Amount) (k : ℕ) (v : Amount) → FitsPair (with_value_at f k v k) → FitsPair v
fits_value f k v h = subst FitsPair (with_value_at-same f k v) h

pub room_here : (net : NetView) (f : ℕ → Amount) (b : ℕ) (v : Amount)
    → FitsPair (minus (negative (amount_at net.worths b)) (with_value_at f b v b))
    → FitsPair (minus (negative (amount_at net.worths b)) v)
room_here net f b v h = subst (λ a. FitsPair (minus (negative (amount_at net.worths b)) a)) (with_value_at-same f b v) h

pub label_here : (f : ℕ → ℕ) (k v : ℕ) → with_value_at f k v k < 2 ^ 64 → v < 2 ^ 64
label_here f k v h = subst (λ a. a < 2 ^ 64) (with_value_at-same f k v) h

-- the rooms after what a block gave the sink has changed
room_with_value_at : (net : NetView) (f : ℕ → Amount) (b : ℕ) (v : Amount)
    → ((i : ℕ) → FitsPair (minus (negative (amount_at net.worths i)) (f i)))
    → FitsPair (minus (negative (amount_at net.worths b)) v) → (i : ℕ)
    → FitsPair (minus (negative (amount_at net.worths i)) (with_value_at f b v i))
room_with_value_at net f b v h e = with_value_at-each (λ i a. FitsPair (minus (negative (amount_at net.worths i)) a))
    f b v e (λ i _. h i)

label_with_value_at : (f : ℕ → ℕ) (k v : ℕ) → ((i : ℕ) → f i < 2 ^ 64) → v < 2 ^ 64 → (i : ℕ)
    → with_value_at f k v i < 2 ^ 64
label_with_value_at f k v h e = with_value_at-each (λ i a. a < 2 ^ 64) f k v e (λ i _. h i)

-- what it says that no further step is counted, or that one is
pub not_full : (t : Bool) (k n : ℕ) → IsTrue t ↔ (n ≤ k) → t ≡ false → k < n
not_full t k n h e = grind (arith, common_steps)

module _ (net : NetView) (v : StateView) (over : IsStateOf net v) (b : ℕ) (l : b < length net.worths)
    (o : Operation Amount) where
  operation_set : (λ c. operation_at (set v.operation b o) c) ≡ with_value_at (λ c. operation_at v.operation c) b o
  operation_set = places-set v.operation b o Idle (omega (arith, l, over.blocks))

  -- every number fits after a change that can be made
  pub fits_changed : (change : Change Amount) → CanChange net b change
      → Fits net (after_change (with_operation (state_of v) b o) b change)
  fits_changed Nothing can =
      let h = over.fits in
      record {
        excess = h.excess;
        label = h.label;
        source = h.source;
        sink = h.sink;
        room = h.room;
        flow = h.flow;
        at_source = h.at_source;
        at_sink = h.at_sink;
      }
  fits_changed (Excess at x) can =
      let h = over.fits in
      record {
        excess = fits_with_value_at (state_of v).excess at x h.excess can.1;
        label = h.label;
        source =
            h.source;
        sink = h.sink;
        room = h.room;
        flow = h.flow;
        at_source = h.at_source;
        at_sink = h.at_sink;
      }
  fits_changed (Label x) can =
      let h = over.fits in
      record {
        excess = h.excess;
        label = label_with_value_at (state_of v).label b x h.label can;
        source = h.source;
        sink = h.sink;
        room = h.room;
        flow = h.flow;
        at_source = h.at_source;
        at_sink = h.at_sink;
      }
  fits_changed (Source x) can =
      let h = over.fits in
      record {
        excess = h.excess;
        label = h.label;
        source = fits_with_value_at (state_of v).source b x h.source can;
        sink = h.sink;
        room = h.room;
        flow = h.flow;
        at_source = h.at_source;
        at_sink = h.at_sink;
      }
  fits_changed (Sink x) can =
      let h = over.fits in
      record {
        excess = h.excess;
        label = h.label;
        source = h.source;
        sink = fits_with_value_at (state_of v).sink b x
            h.sink can.0;
        room = room_with_value_at net (state_of v).sink b x h.room can.1;
        flow = h.flow;
        at_source =
            h.at_source;
        at_sink = h.at_sink;
      }
  fits_changed (Flow k x) can =
      let h = over.fits in
      record {
        excess = h.excess;
        label = h.label;
        source = h.source;
        sink = h.sink;
        room = h.room;
        flow =
            fits_with_value_at (state_of v).flow k x h.flow can.1;
        at_source = h.at_source;
        at_sink = h.at_sink;
      }
  fits_changed (AtSource x) can =
      let h = over.fits in
      record {
        excess = h.excess;
        label = h.label;
        source = h.source;
        sink = h.sink;
        room = h.room;
        flow = h.flow;
        at_source = can;
        at_sink = h.at_sink;
      }
  fits_changed (AtSink x) can =
      let h = over.fits in
      record {
        excess = h.excess;
        label = h.label;
        source = h.source;
        sink = h.sink;
        room = h.room;
        flow = h.flow;
        at_source = h.at_source;
        at_sink = can;
      }

  -- the lists after the change and the next operation
  abbrev pub gone_on : Change Amount → StateView
  gone_on change =
      let w = lists_after_change v b change in
      record w { operation = set w.operation b o; steps = w.steps + 1 }

  -- they show the state after both
  shows : IsSized v → (change : Change Amount) → CanChange net b change
      → state_of (gone_on change) ≡ after_change (with_operation (state_of v) b o) b change
  shows sized Nothing can = λ i. record {
    excess = (state_of v).excess;
    label = (state_of v).label;
    source =
        (state_of v).source;
    sink = (state_of v).sink;
    flow = (state_of v).flow;
    operation = operation_set i;
    at_source = v.at_source;
    at_sink = v.at_sink;
    steps = v.steps + 1;
  }
  shows sized (Excess at x) can = λ i. record {
    excess = places-set v.excess at x zero_amount (omega (arith, can.0, over.blocks, sized.excess)) i;
    label =
        (state_of v).label;
    source = (state_of v).source;
    sink = (state_of v).sink;
    flow = (state_of v).flow;
    operation = operation_set i;
    at_source = v.at_source;
    at_sink = v.at_sink;
    steps = v.steps + 1;
  }
  shows sized (Label x) can = λ i. record {
    excess = (state_of v).excess;
    label = places-set v.label b x 0 (omega (arith, l, over.blocks, sized.label)) i;
    source = (state_of v).source;
    sink = (state_of v).sink;
    flow = (state_of v).flow;
    operation = operation_set i;
    at_source = v.at_source;
    at_sink = v.at_sink;
    steps = v.steps + 1;
  }
  shows sized (Source x) can = λ i. record {
    excess = (state_of v).excess;
    label = (state_of v).label;
    source = places-set v.source b x zero_amount
        (omega (arith, l, over.blocks, sized.source)) i;
    sink = (state_of v).sink;
    flow = (state_of v).flow;
    operation =
        operation_set i;
    at_source = v.at_source;
    at_sink = v.at_sink;
    steps = v.steps + 1;
  }
  shows sized (Sink x) can = λ i. record {
    excess = (state_of v).excess;
    label = (state_of v).label;
    source =
        (state_of v).source;
    sink = places-set v.sink b x zero_amount (omega (arith, l, over.blocks, sized.sink)) i;
    flow = (state_of v).flow;
    operation = operation_set i;
    at_source = v.at_source;
    at_sink = v.at_sink;
    steps =
        v.steps + 1;
  }
  shows sized (Flow k x) can = λ i. record {
    excess = (state_of v).excess;
    label = (state_of v).label;
    source =
        (state_of v).source;
    sink = (state_of v).sink;
    flow = places-set v.flow k x zero_amount
        (omega (arith, can.0, over.pairs)) i;
    operation = operation_set i;
    at_source = v.at_source;
    at_sink = v.at_sink;
    steps = v.steps + 1;
  }
  shows sized (AtSource x) can = λ i. record {
    excess = (state_of v).excess;
    label = (state_of v).label;
    source =
        (state_of v).source;
    sink = (state_of v).sink;
    flow = (state_of v).flow;
    operation = operation_set i;
    at_source = x;
    at_sink = v.at_sink;
    steps = v.steps + 1;
  }
  shows sized (AtSink x) can = λ i. record {
    excess = (state_of v).excess;
    label = (state_of v).label;
    source =
        (state_of v).source;
    sink = (state_of v).sink;
    flow = (state_of v).flow;
    operation = operation_set i;
    at_source = v.at_source;
    at_sink = x;
    steps = v.steps + 1;
  }

  -- as many blocks and pairs as before
  same_blocks : (change : Change Amount) → (lists_after_change v b change).operation ≡ v.operation
  same_blocks Nothing = refl
  same_blocks _ = refl

  same_pairs : (change : Change Amount) → length (lists_after_change v b change).flow ≡ length v.flow
  same_pairs (Flow k x) = length-set v.flow k x
  same_pairs _ = refl

  pub goes : v.steps < MOST_STEPS → IsSized v → (change : Change Amount) → CanChange net b change
      → GoesTo net v (after_change (with_operation (state_of v) b o) b change) (gone_on change)
  goes few sized change can =
      let e = shows sized change can in
      record {
        state = e;
        counted = few;
        fits = subst (Fits net) (sym e) (fits_changed change can);
        blocks = length-set (lists_after_change v b change).operation b o ∙ ap length (same_blocks change);
        pairs = same_pairs change;
      }

-- a refusal because a number of the state after the step doesn't fit
pub too_large : {X : Type 0} (P : X → Type 0) (net : NetView) (old : StateView) (after : State)
    (r : Result X StepRefusal) → r ≡ Err TooLarge → ¬ (Fits net after)
    → MatchResult r P (λ e. StateStays net old after old e)
too_large P net old after r is h = rw is (record { same = refl; why = h })
