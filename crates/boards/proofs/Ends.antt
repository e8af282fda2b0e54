-- What turns leave of a board, and how they end its run.
use Rattle.fixed_worth.proofs.Common.{◌≡◌, ◌↔◌, ℕ, ◌≤◌, IsTrue, Bool, refl, sym, ap, subst, ◌∙◌, arith, inl, inr, true}
use Rattle.fixed_worth.proofs.Common.{false, Option, List, length, ◌∷◌, [], ◌++◌, common_steps}
use Rattle.ordered_group.specs.Amount.{zero_amount}
use Rattle.ordered_group.proofs.Order.{AtMost-same, Below-not}
use Rattle.closure_net.specs.Network.{NetView, FlowView, IsNet}
use Rattle.machine_law.specs.declared.events.Event.{Event}
use Rattle.machine_law.specs.Prelude.{State, opening, IsQuiet, next_event, ReadsNoZero, IsFlowOf}
use Rattle.machine_law.proofs.Quiet.{quiet_solves}
use Rattle.machine_law.proofs.Runs.{run_counts}
use Rattle.machine_law.proofs.ActiveRuns.{active_is_run, active_more, excess_read_idle}
use Rattle.async_step.specs.declared.limits.TheConstants.{MOST_STEPS}
use Rattle.async_step.specs.Prelude.{Fits, StateView, state_of}
use Rattle.boards.specs.Prelude.{SomeNextOverflows, IsMadeByTurns, AreTurnsBetween, AreTurnsTo, BoardView, shown_state}
use Rattle.boards.specs.Prelude.{IsBoard, IsTurnBoard, HasSettled, IsPicked, IsBlockDue, HasNoneDue, HasServed, Sticks}
use Rattle.boards.specs.Prelude.{IsStepOf, IsTurnEnd, IsTurn, HasEnded, GoesOn}
use Rattle.boards.specs.declared.turn.Turn.{Turn}
use Rattle.boards.specs.declared.turn.Turn.TheVariants.{Stepped, Idle as Unserved, Ended}
use Rattle.boards.specs.declared.turn.End.{End}
use Rattle.boards.specs.declared.turn.End.TheVariants.{Quiet, Stuck, Limit, Full}
use Rattle.boards.proofs.FurtherTurns.{active_append}
use Rattle.boards.proofs.Alone.{picked_inside}

-- a quiet board's flow solves its net
pub settled : (board : BoardView) (flow : FlowView) → IsBoard board → IsNet board.net
    → IsQuiet board.net (shown_state board) → IsFlowOf board.net (shown_state board) flow
    → HasSettled board board.net flow
settled board flow is net quiet amounts = grind (arith, common_steps, quiet_solves)

-- what a test for quiet tells of a board that isn't
pub unquiet : (quiet : Bool) (claim : Type 0) → IsTrue quiet ↔ claim → quiet ≡ false → ¬ claim
unquiet quiet claim tells isnt q = let z : true ≡ false = sym (tells.1 q) ∙ isnt in cc

-- ---- a turn is what is due, and its step
pub turn_of_none : (old : BoardView) (own : Option ℕ) (from steps : ℕ) (turn : Turn) → HasNoneDue old own steps turn
    → IsTurn old own from steps old turn
turn_of_none old own from steps Unserved h = (h.0, h.1, refl)
turn_of_none old own from steps (Ended Quiet) h = (h, refl)
turn_of_none old own from steps (Ended Stuck) h = inl (h, refl)
turn_of_none old own from steps (Ended Limit) h = (inl h, refl)
turn_of_none old own from steps turn h = absurd h

pub turn_of_step : (old new : BoardView) (own : Option ℕ) (from steps b : ℕ) (turn : Turn)
    → IsBlockDue old own from steps b → IsStepOf old b new turn → IsTurn old own from steps new turn
turn_of_step old new own from steps b (Stepped block more) due h =
    (subst (λ x. IsBlockDue old own from steps x) (sym h.0) due, subst (λ x. HasServed old x new more) (sym h.0) h.1)
turn_of_step old new own from steps b (Ended Stuck) due h = inr (b, due, h)
turn_of_step old new own from steps b (Ended Limit) due h = (inr (b, due, h.0), h.1)
turn_of_step old new own from steps b turn due h = absurd h

-- ---- what turns alone keep

-- the step of a block that is due reads no excess of zero
due_reads : (board : BoardView) (own : Option ℕ) (from b : ℕ) → IsPicked board own from b
    → ReadsNoZero (shown_state board) (next_event board.net (shown_state board) b)
due_reads board own from b (inl own_one) kind zero = own_one.at_work
    (excess_read_idle board.net b ((shown_state board).operation b) kind)
due_reads board own from b (inr waits) kind zero = Below-not zero_amount ((shown_state board).excess b)
    waits.1.here.excess (AtMost-same ((shown_state board).excess b) zero_amount zero)

-- turns that lead to the state of a board lead to that of any board with its net and state
pub same_turns : (old new : BoardView) (events : List Event) → new.net ≡ old.net → new.state ≡ old.state
    → AreTurnsTo old.net events (shown_state old) → AreTurnsTo new.net events (shown_state new)
same_turns old new events net_is state_is run = subst (λ (n : NetView). AreTurnsTo n events (shown_state new))
    (sym net_is) (subst (λ (v : StateView). AreTurnsTo old.net events (state_of v)) (sym state_is) run)

-- and one turn more, where it makes a step, from whichever state they began
turns_between : (old new : BoardView) (s : State) (events : List Event) (own : Option ℕ) (from steps b : ℕ)
    (more : Bool) → IsBoard new → IsBlockDue old own from steps b → HasServed old b new more
    → AreTurnsBetween old.net s events (shown_state old)
    → AreTurnsBetween old.net s (events ++ next_event old.net (shown_state old) b ∷ []) (shown_state new)
turns_between old new s events own from steps b more is due h run = grind (arith, common_steps, active_more, due_reads)

pub more_turns : (old new : BoardView) (events : List Event) (own : Option ℕ) (from steps b : ℕ) (more : Bool)
    → IsBoard new → IsBlockDue old own from steps b → HasServed old b new more
    → AreTurnsTo old.net events (shown_state old)
    → AreTurnsTo new.net (events ++ next_event old.net (shown_state old) b ∷ []) (shown_state new)
more_turns old new events own from steps b more is due h run =
    subst (λ (n : NetView). AreTurnsTo n (events ++ next_event old.net (shown_state old) b ∷ []) (shown_state new))
    (sym (ap (λ (x : BoardView). x.net) h.rest))
    (turns_between old new (opening old.net) events own from steps b more is due h run)

-- turns are as many as the steps that they lead to
pub turns_counted : (net : NetView) (events : List Event) (s : State) → AreTurnsTo net events s
    → s.steps ≡ length events
turns_counted net events s run = let k = run_counts net (opening net) events s
    (active_is_run (Fits net) net (opening net) events s run) in omega (arith, k)

-- a turn that makes no step leaves the net and the state
pub end_same : (old new : BoardView) (own : Option ℕ) (from steps : ℕ) (end : End)
    → IsTurnEnd old own from steps new end → (new.net ≡ old.net) × (new.state ≡ old.state)
end_same old new own from steps Quiet h = (ap (λ (x : BoardView). x.net) h.1, ap (λ (x : BoardView). x.state) h.1)
end_same old new own from steps Stuck (inl h) = (ap (λ (x : BoardView). x.net) h.1, ap (λ (x : BoardView). x.state) h.1)
end_same old new own from steps Stuck (inr h) =
    (ap (λ (x : BoardView). x.net) h.2.marked, ap (λ (x : BoardView). x.state) h.2.marked)
end_same old new own from steps Limit h = (ap (λ (x : BoardView). x.net) h.1, ap (λ (x : BoardView). x.state) h.1)
end_same old new own from steps Full h = absurd h

module _ (old new : BoardView) (was : IsTurnBoard old) (is : IsBoard new) where
  still : new ≡ old → IsTurnBoard new
  still e = subst IsTurnBoard (sym e) was

  -- one more step was made
  served : (own : Option ℕ) (from steps b : ℕ) (more : Bool) → IsBlockDue old own from steps b
      → HasServed old b new more → IsTurnBoard new
  served own from steps b more due h =
      record {
        is_board = is;
        made = record {
          events = was.made.events ++ next_event old.net (shown_state old) b ∷ [];
          run = more_turns old new was.made.events own from steps b more is due h was.made.run;
        };
        why = λ t. (let z : true ≡ false = sym t
            ∙ (ap (λ (x : BoardView). x.stuck) h.rest ∙ due.going.free) in absurd cc);
      }

  -- it is stuck now
  sticks : (own : Option ℕ) (from steps b : ℕ) → IsBlockDue old own from steps b → Sticks old b new → IsTurnBoard new
  sticks own from steps b due h = record {
    is_board = is;
    made = subst (λ (x : BoardView). IsMadeByTurns x.net (shown_state x)) (sym h.marked) was.made;
    why = λ t. subst (λ (x : BoardView). SomeNextOverflows x.net (shown_state x)) (sym h.marked)
        (record { block = b; known = picked_inside old own from b due.picked; overflows = h.overflows });
  }

  pub turned : (own : Option ℕ) (from steps : ℕ) (turn : Turn) → IsTurn old own from steps new turn → IsTurnBoard new
  turned own from steps (Stepped block more) h = served own from steps block more h.0 h.1
  turned own from steps Unserved h = still h.2
  turned own from steps (Ended Quiet) h = still h.1
  turned own from steps (Ended Stuck) (inl h) = still h.1
  turned own from steps (Ended Stuck) (inr h) = sticks own from steps h.0 h.1 h.2
  turned own from steps (Ended Limit) h = still h.1
  turned own from steps (Ended Full) h = absurd h

-- ---- how a run goes on
-- by a turn that makes a step
pub served_run : (first old new : BoardView) (own : Option ℕ) (from steps b : ℕ) (more : Bool)
    (goes : GoesOn first old steps) → IsBoard new → IsBlockDue old own from steps b × HasServed old b new more
    → AreTurnsBetween first.net (shown_state first) (goes.events ++ next_event old.net (shown_state old) b ∷ [])
    (shown_state new)
served_run first old new own from steps b more goes is h =
    subst (λ (n : NetView). AreTurnsBetween n (shown_state first)
    (goes.events ++ next_event old.net (shown_state old) b ∷ []) (shown_state new)) goes.net_is
    (turns_between old new (shown_state first) goes.events own from steps b more is h.0 h.1
    (subst (λ (n : NetView). AreTurnsBetween n (shown_state first) goes.events (shown_state old))
    (sym goes.net_is) goes.run))

-- by one that makes none
pub ended_run : (first old new : BoardView) (own : Option ℕ) (from steps : ℕ) (end : End)
    (goes : GoesOn first old steps) → IsTurnEnd old own from steps new end
    → AreTurnsBetween first.net (shown_state first) goes.events (shown_state new)
ended_run first old new own from steps end goes h =
    subst (λ (v : StateView). AreTurnsBetween first.net (shown_state first) goes.events (state_of v))
    (sym (end_same old new own from steps end h).1) goes.run

-- by further turns
pub further_run : (first old new : BoardView) (steps : ℕ) (goes : GoesOn first old steps)
    (further : GoesOn old new steps) → AreTurnsBetween first.net (shown_state first) (goes.events ++ further.events)
    (shown_state new)
further_run first old new steps goes further = grind (arith, common_steps, active_append)

-- ---- how turns end a run
module _ (first old new : BoardView) (own : Option ℕ) (from steps : ℕ) (small : steps ≤ MOST_STEPS)
    (goes : GoesOn first old steps) (is : IsTurnBoard new) where
  pub ended : (end : End) → IsTurnEnd old own from steps new end → HasEnded new steps end
  ended Quiet h = subst (λ (x : BoardView). IsQuiet x.net (shown_state x)) (sym h.1) h.0
  ended Stuck (inl h) = is.why (ap (λ (x : BoardView). x.stuck) h.1 ∙ h.0.stuck)
  ended Stuck (inr h) = is.why (ap (λ (x : BoardView). x.stuck) h.2.marked)
  ended Limit (inl h, same) = subst (λ (x : BoardView). HasEnded x steps Limit) (sym same)
      (record { counted = (let a = h.made in let b = goes.within in omega (arith, a, b)); unquiet = h.unquiet })
  ended Limit (inr h, same) = let a = h.2.full in let b = h.1.going.room in absurd (omega (arith, a, b, small))
  ended Full h = absurd h
