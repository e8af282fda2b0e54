-- What a replay says of the history of a run.
use Rattle.std.specs.Prelude.{◌≡◌, ℕ, List, length}
use Rattle.ordered_group.specs.declared.groups.Group.{Group}
use Rattle.closure_net.specs.Network.{NetView, FlowView}
use Rattle.machine_law.specs.declared.events.Event.{Event}
use Rattle.machine_law.specs.Prelude.{State, IsQuiet, IsFlowOf}
use Rattle.trace_file.specs.Prelude.{events_of, IsTraceReadBack}
use Rattle.boards.specs.Runs.{AreTurnsTo}
use Rattle.mine_inputs.specs.Mines.{MineTexts}
use Rattle.check_engines.specs.declared.judgement.Judgement.{Judgement}
use Rattle.replay_engines.specs.declared.outcome.Outcome.{Outcome}
use Rattle.replay_engines.specs.declared.outcome.Outcome.TheVariants.{Quiet}
use Rattle.replay_engines.specs.Outcomes.{IsFlowJudged, IsOutcome}

-- all steps were made, and the flow that is judged is this one
pub record TellsFlow (texts : MineTexts) (name : Group) (net : NetView) (steps : ℕ) (flow : FlowView)
    (outcome : Outcome) : Type 0 where
  pub judgement : Judgement
  pub is : outcome ≡ Quiet steps judgement
  pub judged : IsFlowJudged texts name net flow judgement

-- The turns of a board made these events and led to a quiet state, which has this flow. What comes of a text that is
-- read back as the events, over the same net, is that all of them are steps, and that this flow is judged.
abbrev pub HistoriesAreReplayed : Type 0
HistoriesAreReplayed = (texts : MineTexts) (name : Group) (net : NetView) (events : List Event) (state : State)
    (flow : FlowView) (trace : List ℕ) (outcome : Outcome)
    → AreTurnsTo net events state → IsQuiet net state → IsFlowOf net state flow → IsTraceReadBack trace events
    → IsOutcome texts name net (events_of trace) outcome → TellsFlow texts name net (length events) flow outcome
