-- How a whole run ends: with a greatest flow, or for which reason with none.
use Rattle.std.specs.Prelude.{◌≡◌, ℕ, ◌≤◌, ◌⊎◌, List, length}
use Rattle.ordered_group.specs.Amount.{AtMost}
use Rattle.closure_net.specs.Prelude.{NetView, FlowView, IsGreatestFlow}
use Rattle.machine_law.specs.Conservation.{all_given}
use Rattle.word_runner.specs.declared.turns.WordTurn.TheVariants.{TooLarge}
use Rattle.word_runner.specs.declared.words_fault.WordsFault.{WordsFault}
use Rattle.word_runner.specs.declared.words_fault.WordsFault.TheVariants as fault
use Rattle.word_runner.specs.declared.settle_fault.SettleFault.{SettleFault}
use Rattle.word_runner.specs.declared.settle_fault.SettleFault.TheVariants as unsettled
use Rattle.workers.specs.declared.solving.SolveFault.{SolveFault}
use Rattle.workers.specs.declared.solving.SolveFault.TheVariants as solve
use Rattle.machine_law.specs.declared.events.Event.{Event}
use Rattle.word_steps.specs.Prelude.{units, SomeFlowIsTooLarge, SomeLabelIsTooLarge}
use Rattle.word_runner.specs.CutNets.{IsCutNet}
use Rattle.word_runner.specs.Openings.{AreNeitherOneNorTwo}
use Rattle.word_runner.specs.Runs.{IsQuietRunOf, IsOpenRunOf, IsGreatestUncut}

-- the run that seats made is quiet, the flow is the one that it leaves, and so a greatest one
pub record IsQuietEnd (cut : NetView) (made : List Event) (flow : FlowView) : Type 0 where
  pub quiet : IsQuietRunOf cut made flow
  pub greatest : IsGreatestUncut cut flow

-- why there is no flow where no seat has an operation
abbrev pub CloseFaultStands : NetView → List Event → SettleFault → Type 0
CloseFaultStands cut made unsettled.Unsettled = IsOpenRunOf cut made
CloseFaultStands cut made unsettled.NoMemory = Unit {0}

-- why there is no flow where a seat may have an operation
abbrev pub EndFaultStands : NetView → List Event → Type 0 → SettleFault → Type 0
EndFaultStands cut made busy unsettled.Unsettled = busy ⊎ IsOpenRunOf cut made
EndFaultStands cut made busy unsettled.NoMemory = Unit {0}

-- a run of the machine leads to a flow or a label of 2^63 or more
abbrev pub SomeRunIsTooLarge : NetView → Type 0
SomeRunIsTooLarge cut = SomeFlowIsTooLarge cut ⊎ SomeLabelIsTooLarge cut

-- why turns over this net left no flow; nothing is said of what is unsettled, since no proof speaks of how far a worker
-- came
abbrev pub WordRunFaultStands : NetView → SolveFault → Type 0
WordRunFaultStands cut solve.Unsettled = Unit {0}
WordRunFaultStands cut solve.TooLarge = SomeRunIsTooLarge cut
WordRunFaultStands cut solve.NoMemory = Unit {0}
WordRunFaultStands cut _ = ⊥

-- One or two workers made so many steps over the net cut at its total, at most the limit. They left it quiet, with this
-- flow, which is a greatest one of the net.
pub record IsSolvedBy (net : NetView) (workers limit : ℕ) (flow : FlowView) (steps : ℕ) : Type 0 where
  pub good : ¬ (AreNeitherOneNorTwo workers)
  pub small : AtMost (all_given net) (units 9223372036854775807)
  pub cut : NetView
  pub is_cut : IsCutNet net cut
  pub made : List Event
  pub counted : length made ≡ steps
  pub within : steps ≤ limit
  pub quiet : IsQuietRunOf cut made flow
  pub greatest : IsGreatestFlow net flow

-- a run over the net cut at its total leads to a number that is too large
pub record SomeCutRunIsTooLarge (net : NetView) : Type 0 where
  pub cut : NetView
  pub is_cut : IsCutNet net cut
  pub large : SomeRunIsTooLarge cut

-- why a whole run gives no flow
abbrev pub WordSolveFaultStands : NetView → ℕ → SolveFault → Type 0
WordSolveFaultStands net workers solve.BadWorkers = AreNeitherOneNorTwo workers
WordSolveFaultStands net workers solve.Unsettled = ¬ (AreNeitherOneNorTwo workers)
    × AtMost (all_given net) (units 9223372036854775807)
WordSolveFaultStands net workers solve.TooLarge = ¬ (AreNeitherOneNorTwo workers)
    × (AtMost (units 9223372036854775808) (all_given net) ⊎ SomeCutRunIsTooLarge net)
WordSolveFaultStands net workers solve.StrangerNet = ⊥
WordSolveFaultStands net workers solve.NoMemory = ¬ (AreNeitherOneNorTwo workers)
WordSolveFaultStands net workers solve.NoThread = ¬ (AreNeitherOneNorTwo workers)
    × AtMost (all_given net) (units 9223372036854775807)

-- the faults of words as faults of a run
abbrev pub solve_fault : WordsFault → SolveFault
solve_fault fault.BadWorkers = solve.BadWorkers
solve_fault fault.TooLarge = solve.TooLarge
solve_fault fault.NoMemory = solve.NoMemory

abbrev pub settle_fault : SettleFault → SolveFault
settle_fault unsettled.Unsettled = solve.Unsettled
settle_fault unsettled.NoMemory = solve.NoMemory
