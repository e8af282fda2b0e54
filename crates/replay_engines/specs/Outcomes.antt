-- What comes of the steps of a trace over a mine, and the lines that tell it.
use Rattle.std.specs.Prelude.{◌≡◌, ℕ, ℤ, List, [], ◌∷◌, ◌++◌, codes, decimal, length}
use Rattle.ordered_group.specs.declared.groups.Group.{Group}
use Rattle.closure_net.specs.Prelude.{NetView, FlowView, holds_of, IsReached, worth_of, block_count_of}
use Rattle.machine_law.specs.declared.events.Event.{Event}
use Rattle.machine_law.specs.Prelude.{State, opening, IsQuiet, Run, IsFlowOf}
use Rattle.async_step.specs.Prelude.{IsRefusedAt, step_refusal_text}
use Rattle.check_pit.specs.Checks.{IsOfNet, IsSound, PitFaultStands}
use Rattle.check_pit.specs.declared.pit_fault.PitFault.{PitFault}
use Rattle.check_pit.specs.declared.pit_fault.PitFault.TheVariants as pit_fault
use Rattle.check_engines.specs.declared.judgement.Judgement.{Judgement}
use Rattle.check_engines.specs.declared.judgement.Judgement.TheVariants as judged
use Rattle.check_engines.specs.declared.judgement.Verdict.{Verdict}
use Rattle.check_engines.specs.declared.judgement.Verdict.TheVariants.{No}
use Rattle.mine_inputs.specs.Mines.{MineTexts, mine_of}
use Rattle.check_engines.specs.Prelude.{IsProvedPit, judgement_line, verdict_of}
use Rattle.replay_engines.specs.declared.outcome.Outcome.{Outcome}
use Rattle.replay_engines.specs.declared.outcome.Outcome.TheVariants.{Quiet, Open, Refused}

-- ---- what a check says of a flow

-- The pit is that of the blocks which the source reaches in what the flow leaves of the net. The flow proves it; it has
-- so many blocks and is worth so much.
pub record IsFlowAccepted (texts : MineTexts) (name : Group) (net : NetView) (flow : FlowView) (blocks : ℕ)
    (nanos : ℤ) : Type 0 where
  pub pit : List ℕ
  pub reached : IsReached net flow (holds_of pit)
  pub sound : IsSound net flow pit
  pub proved : IsProvedPit name (mine_of (length net.worths) texts) (holds_of pit)
  pub count : block_count_of (mine_of (length net.worths) texts) (holds_of pit) ≡ blocks
  pub worth : worth_of (mine_of (length net.worths) texts) (holds_of pit) ≡ nanos

-- a sum in the check of the flow and of this pit doesn't fit, and nothing else fails
pub record IsFlowRefused (net : NetView) (flow : FlowView) (fault : PitFault) : Type 0 where
  pub pit : List ℕ
  pub reached : IsReached net flow (holds_of pit)
  pub of_net : IsOfNet net pit
  pub stands : PitFaultStands net flow pit fault
  pub only : fault ≡ pit_fault.TooLarge

-- what a check says of the flow, with the pit of the blocks that the source reaches in it
abbrev pub IsFlowJudged : MineTexts → Group → NetView → FlowView → Judgement → Type 0
IsFlowJudged texts name net flow (judged.Accepted group count worth) = (group ≡ name)
    × IsFlowAccepted texts name net flow count worth
IsFlowJudged texts name net flow (judged.Refused fault) = IsFlowRefused net flow fault

-- ---- what comes of the events

-- The events, one after the other, are a run from the opening state of the net to a quiet state, whose flow this is.
pub record EndsQuiet (net : NetView) (events : List Event) (flow : FlowView) : Type 0 where
  pub state : State
  pub run : Run net (opening net) events state
  pub quiet : IsQuiet net state
  pub amounts : IsFlowOf net state flow

-- The events are a run to a state in which some block has excess or an operation.
pub record EndsOpen (net : NetView) (events : List Event) : Type 0 where
  pub state : State
  pub run : Run net (opening net) events state
  pub unquiet : ¬ (IsQuiet net state)

-- all events are steps, and what a check says of the flow; all are steps; or the first at this place, counted from 1,
-- is refused
abbrev pub IsOutcome : MineTexts → Group → NetView → List Event → Outcome → Type 0
IsOutcome texts name net events (Quiet steps judgement) = (steps ≡ length events)
    × ((flow : FlowView) × EndsQuiet net events flow × IsFlowJudged texts name net flow judgement)
IsOutcome texts name net events (Open steps) = (steps ≡ length events) × EndsOpen net events
IsOutcome texts name net events (Refused place refusal) = IsRefusedAt net events place refusal

-- ---- how it is told

-- the lines of an outcome: of a quiet state its flow's judgement too
abbrev pub outcome_text : Outcome → List ℕ
outcome_text (Quiet steps judgement) = codes "REPLAYED "
    ++ (decimal steps ++ (codes " QUIET" ++ (10 ∷ judgement_line judgement)))
outcome_text (Open steps) = codes "REPLAYED " ++ (decimal steps ++ (codes " OPEN" ++ 10 ∷ []))
outcome_text (Refused place refusal) = codes "REFUSED "
    ++ (decimal place ++ (codes " " ++ (step_refusal_text refusal ++ 10 ∷ [])))

-- how an engine ends with it
abbrev pub outcome_verdict : Outcome → Verdict
outcome_verdict (Quiet steps judgement) = verdict_of judgement
outcome_verdict (Open steps) = No
outcome_verdict (Refused place refusal) = No
