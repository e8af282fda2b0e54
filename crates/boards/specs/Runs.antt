-- Runs as turns at a board make them.
use Rattle.std.specs.Prelude.{ℕ, ◌<◌, List, length}
use Rattle.closure_net.specs.Network.{NetView, FlowView}
use Rattle.machine_law.specs.declared.events.Event.{Event}
use Rattle.machine_law.specs.Prelude.{State, opening, IsQuiet, IsStateOfRun, ActiveRun, IsStateOfActiveRun, Run}
use Rattle.machine_law.specs.Prelude.{advance, IsFlowOf, IsSolved}
use Rattle.async_step.specs.Answers.{Fits}

-- the step that is next for some block overflows: a number of the state after it doesn't fit its type
pub record SomeNextOverflows (net : NetView) (s : State) : Type 0 where
  pub block : ℕ
  pub known : block < length net.worths
  pub overflows : ¬ (Fits net (advance net s block))

-- after some run over the net there is such a block
pub record SomeRunOverflows (net : NetView) : Type 0 where
  pub state : State
  pub reached : IsStateOfRun net state
  pub next : SomeNextOverflows net state

-- Turns lead to the state from the opening one: no ReadExcess sees zero, and after each step all numbers fit.
abbrev pub IsMadeByTurns : NetView → State → Type 0
IsMadeByTurns net s = IsStateOfActiveRun (Fits net) net s

-- these events, in this order, are such turns, from the first state to the second
abbrev pub AreTurnsBetween : NetView → State → List Event → State → Type 0
AreTurnsBetween net s events t = ActiveRun (Fits net) net s events t

-- these events, in this order, are such turns, from the opening state to this one
abbrev pub AreTurnsTo : NetView → List Event → State → Type 0
AreTurnsTo net events s = AreTurnsBetween net (opening net) events s

-- The events are a run over the net. The state that they lead to, which is the only one, is quiet; the flow is that of
-- the state, and so a greatest one, in which what the source reaches is closed and tight.
pub record IsReplayedTo (net : NetView) (events : List Event) (flow : FlowView) : Type 0 where
  pub state : State
  pub run : Run net (opening net) events state
  pub only : (s : State) → Run net (opening net) events s → IsQuiet net s × IsFlowOf net s flow
  pub solved : IsSolved net flow
