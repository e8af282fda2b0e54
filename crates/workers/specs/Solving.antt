-- What a whole run by workers answers.
use Rattle.std.specs.Prelude.{◌≡◌, ℕ, ◌<◌, ◌≤◌, ◌⊎◌}
use Rattle.closure_net.specs.Network.{NetView}
use Rattle.boards.specs.Boards.{BoardView, shown_state}
use Rattle.workers.specs.Runs.{most_steps, IsCutOff, SomeStepOverflows}
use Rattle.workers.specs.declared.solving.SolveFault.{SolveFault}
use Rattle.workers.specs.declared.solving.SolveFault.TheVariants.{BadWorkers, Unsettled, TooLarge, StrangerNet}
use Rattle.workers.specs.declared.solving.SolveFault.TheVariants.{NoMemory, NoThread}
use Rattle.workers.specs.declared.solving.TheConstants.{MOST_WORKERS}

-- the number of workers is wrong
abbrev pub AreBadWorkers : ℕ → Type 0
AreBadWorkers workers = (workers < 1) ⊎ (MOST_WORKERS < workers)

-- a board over the net, with at most the steps of the limit
pub record IsBoardLeft (net : NetView) (limit : ℕ) (board : BoardView) : Type 0 where
  pub net_is : board.net ≡ net
  pub within : (shown_state board).steps ≤ most_steps limit

-- why there is no such board
abbrev pub IsLoss : SolveFault → Type 0
IsLoss StrangerNet = Unit {0}
IsLoss NoMemory = Unit {0}
IsLoss NoThread = Unit {0}
IsLoss _ = ⊥

-- why a run that has ended gives no flow
abbrev pub RunFaultStands : NetView → ℕ → SolveFault → Type 0
RunFaultStands net limit Unsettled = IsCutOff net limit
RunFaultStands net limit TooLarge = SomeStepOverflows net limit
RunFaultStands net limit _ = ⊥

-- Why a run gives no flow. What a thread does with the board that it is lent can't be said, so the board that comes
-- back is compared with the net; nothing is said of where it is another, of memory, or of threads.
abbrev pub SolveFaultStands : NetView → ℕ → ℕ → SolveFault → Type 0
SolveFaultStands net workers limit BadWorkers = AreBadWorkers workers
SolveFaultStands net workers limit Unsettled = IsCutOff net limit
SolveFaultStands net workers limit TooLarge = SomeStepOverflows net limit
SolveFaultStands net workers limit _ = Unit {0}
