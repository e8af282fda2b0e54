-- Runs step by step: a step leads to one state only and adds one to their number, and a run goes on by one step, or by
-- another run.
use Rattle.fixed_worth.proofs.Common.{◌≡◌, ◌+◌, List, [], ◌∷◌, ◌++◌, length, refl, ap, sym, ◌∙◌, subst, arith}
use Rattle.fixed_worth.proofs.Common.{common_steps}
use Rattle.closure_net.specs.Network.{NetView}
use Rattle.machine_law.specs.declared.events.Event.{Event}
use Rattle.machine_law.specs.Prelude.{State, Step, Run}

-- a step leads to one state only
pub step_unique : (net : NetView) (s : State) (e : Event) (t u : State) → Step net s e t → Step net s e u → t ≡ u
step_unique net s e t u h k = h.after ∙ sym k.after

-- and so does a run
pub run_unique : (net : NetView) (s : State) (es : List Event) (t u : State) → Run net s es t → Run net s es u → t ≡ u
run_unique net s [] t u h k = h ∙ sym k
run_unique net s (e ∷ es) t u h k = run_unique net h.0 es t u h.2
    (subst (λ (v : State). Run net v es u) (step_unique net s e k.0 h.0 k.1 h.1) k.2)

-- ---- each step counts once

pub step_counts : (net : NetView) (s : State) (e : Event) (t : State) → Step net s e t → t.steps ≡ s.steps + 1
step_counts net s e t h = ap (λ (u : State). u.steps) h.after ∙ (grind (arith, common_steps))

-- so a run makes as many as it lists
pub run_counts : (net : NetView) (s : State) (es : List Event) (t : State) → Run net s es t
    → t.steps ≡ s.steps + length es
run_counts net s [] t h = let e = ap (λ (u : State). u.steps) h in omega (arith, e)
run_counts net s (e ∷ es) t h = let c = step_counts net s e h.0 h.1 in let r = run_counts net h.0 es t h.2 in omega
    (arith, c, r)

-- ---- longer runs
-- a run goes on by another
pub run_append : (net : NetView) (s : State) (es fs : List Event) (t u : State) → Run net s es t → Run net t fs u
    → Run net s (es ++ fs) u
run_append net s [] fs t u h k = subst (λ (v : State). Run net v fs u) h k
run_append net s (e ∷ es) fs t u h k = (h.0, h.1, run_append net h.0 es fs t u h.2 k)

-- and by one step
pub run_more : (net : NetView) (s : State) (es : List Event) (e : Event) (t u : State) → Run net s es t
    → Step net t e u → Run net s (es ++ e ∷ []) u
run_more net s es e t u h k = run_append net s es (e ∷ []) t u h (u, k, refl)
