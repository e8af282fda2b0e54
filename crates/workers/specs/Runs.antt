-- How whole runs end.
use Rattle.std.specs.Prelude.{◌≡◌, ℕ, ◌≤◌, min}
use Rattle.closure_net.specs.Network.{NetView, FlowView}
use Rattle.machine_law.specs.Prelude.{State, IsQuiet, IsFlowOf, IsSolved}
use Rattle.async_step.specs.declared.limits.TheConstants.{MOST_STEPS}
use Rattle.boards.specs.Runs.{SomeNextOverflows, IsMadeByTurns}

-- the most steps of a run with this limit: no more than a state counts
abbrev pub most_steps : ℕ → ℕ
most_steps limit = min limit MOST_STEPS

-- Turns end a run over the net quiet after so many steps, at most those of the limit. It leaves this flow, which is a
-- greatest one, and what the source reaches in what the flow leaves is closed and tight.
pub record Settles (net : NetView) (limit : ℕ) (flow : FlowView) (steps : ℕ) : Type 0 where
  pub state : State
  pub made : IsMadeByTurns net state
  pub counted : state.steps ≡ steps
  pub within : steps ≤ most_steps limit
  pub quiet : IsQuiet net state
  pub amounts : IsFlowOf net state flow
  pub solved : IsSolved net flow

-- turns made exactly as many steps over the net as the limit allows, and the state that they lead to isn't quiet
pub record IsCutOff (net : NetView) (limit : ℕ) : Type 0 where
  pub state : State
  pub made : IsMadeByTurns net state
  pub counted : state.steps ≡ most_steps limit
  pub unquiet : ¬ (IsQuiet net state)

-- turns within the limit lead to a state over the net in which the next step of some block overflows
pub record SomeStepOverflows (net : NetView) (limit : ℕ) : Type 0 where
  pub state : State
  pub made : IsMadeByTurns net state
  pub within : state.steps ≤ most_steps limit
  pub next : SomeNextOverflows net state
