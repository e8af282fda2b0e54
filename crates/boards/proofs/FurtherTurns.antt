-- Runs in which no ReadExcess sees zero go on by others, and the events of both are written down.
use Rattle.std.proofs.Common.{◌≡◌, Bool, true, false, List, [], ◌∷◌, ◌++◌, refl, sym, subst, append_assoc, append-nil}
use Rattle.closure_net.specs.Network.{NetView}
use Rattle.machine_law.specs.declared.events.Event.{Event}
use Rattle.machine_law.specs.Prelude.{State, ActiveRun}
use Rattle.boards.specs.Records.{written_after}

-- such a run goes on by another
pub active_append : (allowed : State → Type 0) (net : NetView) (s : State) (es fs : List Event) (t u : State)
    → ActiveRun allowed net s es t → ActiveRun allowed net t fs u → ActiveRun allowed net s (es ++ fs) u
active_append allowed net s [] fs t u h k = subst (λ (v : State). ActiveRun allowed net v fs u) h k
active_append allowed net s (e ∷ es) fs t u h k = (h.0, h.1, h.2, h.3, active_append allowed net h.0 es fs t u h.4 k)

-- no turn writes nothing down
pub written_after_none : (records : Bool) (events : List Event) → events ≡ written_after records events []
written_after_none true events = sym (append-nil events)
written_after_none false events = refl

-- what is written down of the one turns, and then of the others, is what is written down of all
pub written_after_both : (records : Bool) (events es fs : List Event)
    → written_after records (written_after records events es) fs ≡ written_after records events (es ++ fs)
written_after_both true events es fs = append_assoc events es fs
written_after_both false events es fs = refl
