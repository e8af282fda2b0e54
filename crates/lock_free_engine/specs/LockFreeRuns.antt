-- Why a run without a lock proves no pit.
use Rattle.std.specs.Prelude.{ℕ, ◌⊎◌, List}
use Rattle.ordered_group.specs.Amount.{AtMost}
use Rattle.closure_net.specs.Prelude.{NetView, FlowView, holds_of, IsReached}
use Rattle.machine_law.specs.Conservation.{all_given}
use Rattle.word_steps.specs.Prelude.{units}
use Rattle.word_runner.specs.Prelude.{IsSolvedBy, SomeCutRunIsTooLarge}
use Rattle.check_pit.specs.Checks.{IsOfNet, PitFaultStands}
use Rattle.check_pit.specs.declared.pit_fault.PitFault.TheVariants as pit_fault
use Rattle.solve_engines.specs.declared.solvers.Unsolved.{Unsolved}
use Rattle.solve_engines.specs.declared.solvers.Unsolved.TheVariants.{Unsettled, TooLarge, NoMemory, NoThread}

-- what the source gives in all is below 2^63 units, and so the net has words
abbrev pub HasWords : NetView → Type 0
HasWords net = AtMost (all_given net) (units 9223372036854775807)

-- that is 2^63 or more, or a run of the machine leads to a flow or a label of 2^63 or more
abbrev pub SomeWordOverflows : NetView → Type 0
SomeWordOverflows net = AtMost (units 9223372036854775808) (all_given net) ⊎ SomeCutRunIsTooLarge net

-- The check of what a run leaves, with the blocks that the source reaches in it, finds a sum that overflows.
pub record LockFreeCheckOverflows (net : NetView) (workers limit : ℕ) : Type 0 where
  pub flow : FlowView
  pub steps : ℕ
  pub solved : IsSolvedBy net workers limit flow steps
  pub pit : List ℕ
  pub reached : IsReached net flow (holds_of pit)
  pub of_net : IsOfNet net pit
  pub stands : PitFaultStands net flow pit pit_fault.TooLarge

-- a word of a run, or a sum of the check of what it leaves, overflows
abbrev pub SomeLockFreeNumberOverflows : NetView → ℕ → ℕ → Type 0
SomeLockFreeNumberOverflows net workers limit = SomeWordOverflows net ⊎ LockFreeCheckOverflows net workers limit

-- Why so many workers prove no pit in so many turns. Of what is unsettled nothing is said except that there was a run:
-- no proof speaks of how far a worker came.
abbrev pub LockFreeStands : NetView → ℕ → ℕ → Unsolved → Type 0
LockFreeStands net workers limit Unsettled = HasWords net
LockFreeStands net workers limit TooLarge = SomeLockFreeNumberOverflows net workers limit
LockFreeStands net workers limit NoMemory = Unit {0}
LockFreeStands net workers limit NoThread = Unit {0}
LockFreeStands net workers limit _ = ⊥
