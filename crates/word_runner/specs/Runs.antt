-- What the seats make of a run, and when it leaves a flow.
use Rattle.std.specs.Prelude.{◌≡◌, ℕ, ◌<◌, ◌≤◌, ◌⊎◌, false, List, [], ◌∷◌, ◌++◌, length}
use Rattle.closure_net.specs.Prelude.{NetView, FlowView, IsNet, IsGreatestFlow}
use Rattle.machine_law.specs.declared.operations.Operation.TheVariants.{Idle}
use Rattle.word_runner.specs.declared.settle_fault.SettleFault.{SettleFault}
use Rattle.word_runner.specs.declared.settle_fault.SettleFault.TheVariants as unsettled
use Rattle.machine_law.specs.States as law
use Rattle.machine_law.specs.Prelude.{opening, IsQuiet, Run, IsFlowOf}
use Rattle.machine_law.specs.declared.events.Event.{Event}
use mathlib.Core.Option.{some}
use lib.ListN.{get_elem?}
use Rattle.word_steps.specs.Prelude.{count, of_block}
use Rattle.word_runner.specs.Seats.{WordsView, Own, IsServing, IsServed}
use Rattle.word_runner.specs.CutNets.{IsCutNet}

-- a seat of this number that has taken its turns, and how many steps it made
pub record SeatHasServed (w : WordsView) (number workers turns : ℕ) (s : Own) (steps : ℕ) : Type 0 where
  pub served : IsServed w.shared number workers s
  pub within : steps ≤ turns
  pub made : s.stopped ≡ false → length s.place.me.0.made ≡ steps

-- a worker of this number is at the block `at` of a round, after so many steps in so many turns
pub record IsRound (w : WordsView) (number : ℕ) (s : Own) (at steps turns : ℕ) : Type 0 where
  pub serving : IsServing w.shared number w.workers s at
  pub made : length s.place.me.0.made ≡ steps
  pub within : steps ≤ turns

-- these are all seats of the words
pub record AreSeats (w : WordsView) (seats : List Own) : Type 0 where
  pub size : length seats ≡ w.workers
  pub each : (k : ℕ) (s : Own) → get_elem? seats k ≡ some s → IsServed w.shared k w.workers s

-- the steps that the seats made, those of one after those of the other
abbrev pub steps_made_by : List Own → List Event
steps_made_by [] = []
steps_made_by (s ∷ ss) = s.place.me.0.made ++ steps_made_by ss

-- a run of the machine over the net whose steps at each block are those that the seats made there
pub record IsRunOf (net : NetView) (made : List Event) : Type 0 where
  pub events : List Event
  pub machine : law.State
  pub run : Run net (opening net) events machine
  pub at_blocks : (b : ℕ) → b < count net → of_block b events ≡ of_block b made

-- such a run ends quiet, and the flow is the one that it leaves
pub record IsQuietRunOf (net : NetView) (made : List Event) (flow : FlowView) : Type 0 where
  pub run : IsRunOf net made
  pub quiet : IsQuiet net run.machine
  pub amounts : IsFlowOf net run.machine flow

-- such a run ends in a state that isn't quiet
pub record IsOpenRunOf (net : NetView) (made : List Event) : Type 0 where
  pub run : IsRunOf net made
  pub unquiet : ¬ (IsQuiet net run.machine)

-- the flow is a greatest one of each net that is this one where it is cut
abbrev pub IsGreatestUncut : NetView → FlowView → Type 0
IsGreatestUncut cut flow = (net : NetView) → IsNet net → IsCutNet net cut → IsGreatestFlow net flow

-- the run that the seats made is quiet, and this is its flow
pub record IsRunSettled (w : WordsView) (seats : List Own) (flow : FlowView) : Type 0 where
  pub quiet : IsQuietRunOf w.cut (steps_made_by seats) flow
  pub greatest : IsGreatestUncut w.cut flow

-- one of the seats has an operation
abbrev pub SomeIsBusy : List Own → Type 0
SomeIsBusy seats = (k : ℕ) × (s : Own) × (get_elem? seats k ≡ some s) × ¬ (s.operation ≡ Idle)

-- why the words give no flow
abbrev pub SettleFaultStands : WordsView → List Own → SettleFault → Type 0
SettleFaultStands w seats unsettled.Unsettled = SomeIsBusy seats ⊎ IsOpenRunOf w.cut (steps_made_by seats)
SettleFaultStands w seats unsettled.NoMemory = Unit {0}
