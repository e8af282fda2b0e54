-- Runs in which no ReadExcess sees zero: they go on by one step, and only a block without an operation reads its
-- excess.
use Rattle.fixed_worth.proofs.Common.{◌≡◌, ℕ, List, [], ◌∷◌, ◌++◌, refl, subst, arith, common_steps}
use Rattle.ordered_group.specs.Amount.{Amount}
use Rattle.closure_net.specs.Network.{NetView}
use Rattle.machine_law.specs.declared.operations.Operation.{Operation}
use Rattle.machine_law.specs.declared.operations.Operation.TheVariants.{Idle}
use Rattle.machine_law.specs.declared.events.Event.{Event}
use Rattle.machine_law.specs.declared.events.Kind.TheVariants.{ReadExcess}
use Rattle.machine_law.specs.Prelude.{State, next_of, Step, Run, ReadsNoZero, ActiveRun}

-- ---- such a run is a run, and goes on by one step
pub active_is_run : (allowed : State → Type 0) (net : NetView) (s : State) (es : List Event) (t : State)
    → ActiveRun allowed net s es t → Run net s es t
active_is_run allowed net s [] t h = h
active_is_run allowed net s (e ∷ es) t h = (h.0, h.1, active_is_run allowed net h.0 es t h.4)

pub active_more : (allowed : State → Type 0) (net : NetView) (s : State) (es : List Event) (e : Event) (t u : State)
    → ActiveRun allowed net s es t → Step net t e u → ReadsNoZero t e → allowed u
    → ActiveRun allowed net s (es ++ e ∷ []) u
active_more allowed net s [] e t u h step reads fits = subst (λ (v : State). ActiveRun allowed net v (e ∷ []) u) h
    (u, step, reads, fits, refl)
active_more allowed net s (x ∷ es) e t u h step reads fits =
    (h.0, h.1, h.2, h.3, active_more allowed net h.0 es e t u h.4 step reads fits)

-- ---- the kind of step that reads an excess

-- only a block without an operation makes it
pub excess_read_idle : (net : NetView) (b : ℕ) (o : Operation Amount) → next_of net b o ≡ ReadExcess → o ≡ Idle
excess_read_idle net b o e = grind (arith, common_steps)
