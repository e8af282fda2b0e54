-- Reading the texts of periods, of what blocks use, and of a schedule, as an engine does.
use Rattle.std.specs.Prelude.{◌≡◌, ℕ, ◌+◌, ◌*◌, ◌<◌, ℤ, pos, List, ◌++◌, length, slice_index, Some, None, Ok, Err}
use Rattle.prec_file.specs.Rests.{RestsView}
use Rattle.blocks_file.specs.Denotes.{BlocksView}
use Rattle.blocks_file.specs.Records as blocks
use Rattle.mine_inputs.specs.Prelude.{BlocksFails, IsTooLong, IsWithinLimit, cell}
use Rattle.engine_faults.specs.declared.engine_fault.EngineFault.TheVariants as engine
use Rattle.periods_file.specs.Periods.{PeriodsView, ReadsPeriods}
use Rattle.schedule_file.specs.Records as schedule
use Rattle.schedule_file.specs.declared.entry.Entry.{Entry}
use Rattle.schedule_engines.specs.declared.plan_fault.PeriodsProblem.TheVariants as period_problem
use Rattle.schedule_engines.specs.declared.plan_fault.ScheduleProblem.TheVariants as schedule_problem
use Rattle.schedule_engines.specs.declared.plan_fault.PlanFault.{PlanFault}
use Rattle.schedule_engines.specs.declared.plan_fault.PlanFault.TheVariants as plan
use Rattle.schedule_engines.specs.Uses.{AllAre, AreWaits, IsBlock, IsFirstWrong, IsUse, use_in}

-- the text isn't too long, and says this of periods where there are so many ways to treat a block
abbrev pub ReadsPeriodsBy : ℕ → List ℕ → PeriodsView → Type 0
ReadsPeriodsBy ways text p = IsWithinLimit text × ReadsPeriods ways text (Ok p)

-- the text isn't too long, is a schedule of n blocks over so many periods where there are so many ways, and these are
-- the period and the way of each block
abbrev pub ReadsEntries : (n periods ways : ℕ) → List ℕ → List Entry → Type 0
ReadsEntries n periods ways text listed = IsWithinLimit text × (schedule.fault_of n periods ways text ≡ None)
    × schedule.AreEntries n periods ways text listed

-- The text isn't too long, has the columns of resources and of blocks that wait without a fault, and is of n blocks;
-- these are the numbers of resources, column by column, none of which is negative, and these are the pairs of blocks
-- that wait.
pub record ReadsUses (n : ℕ) (columns waits text uses : List ℕ) (lags : RestsView) : Type 0 where
  pub within : IsWithinLimit text
  pub read : blocks.blocks_fault_of (columns ++ waits) text ≡ None
  pub count : blocks.record_count_of text ≡ n
  pub size : length uses ≡ length columns * n
  pub each : (r b : ℕ) → r < length columns → b < n
      → pos (slice_index uses (r * n + b)) ≡ cell text (slice_index columns r) b
  pub waiting : AreWaits n waits text lags

-- ---- how reading them fails; want of memory and a failing device say nothing of a text

-- the text says nothing of periods where there are so many ways: it is too long, or has this fault
abbrev pub PeriodsByFail : ℕ → List ℕ → PlanFault → Type 0
PeriodsByFail ways text (plan.Periods period_problem.InputTooLong) = IsTooLong text
PeriodsByFail ways text (plan.Periods (period_problem.Fault fault)) = IsWithinLimit text
    × ReadsPeriods ways text (Err fault)
PeriodsByFail ways text (plan.Engine engine.Memory) = Unit {0}
PeriodsByFail ways text (plan.Engine engine.Device) = Unit {0}
PeriodsByFail ways text _ = ⊥

-- the text is no schedule of n blocks over so many periods where there are so many ways: it is too long, or has this
-- fault
abbrev pub EntriesFail : (n periods ways : ℕ) → List ℕ → PlanFault → Type 0
EntriesFail n periods ways text (plan.Schedule schedule_problem.InputTooLong) = IsTooLong text
EntriesFail n periods ways text (plan.Schedule (schedule_problem.Fault fault)) = IsWithinLimit text
    × (schedule.fault_of n periods ways text ≡ Some fault)
EntriesFail n periods ways text (plan.Engine engine.Memory) = Unit {0}
EntriesFail n periods ways text (plan.Engine engine.Device) = Unit {0}
EntriesFail n periods ways text _ = ⊥

-- the text isn't too long, has these columns without a fault, and is of n blocks
abbrev pub AreBlocksOf : ℕ → (columns text : List ℕ) → Type 0
AreBlocksOf n columns text = IsWithinLimit text × (blocks.blocks_fault_of columns text ≡ None)
    × (blocks.record_count_of text ≡ n)

-- the number of block b in the k-th of these columns of a text
abbrev pub in_columns : (columns text : List ℕ) → ℕ → ℕ → ℤ
in_columns columns text k b = cell text (slice_index columns k) b

-- the columns of a model, so many of resources and so many of blocks that wait, are none of n blocks
abbrev pub UsesWrong : BlocksView → ℕ → ℕ → ℕ → PlanFault → Type 0
UsesWrong m resources waits n (plan.Periods period_problem.BlockCount) = ¬ (m.blocks ≡ n)
UsesWrong m resources waits n (plan.Periods (period_problem.NegativeUse r b)) = (m.blocks ≡ n)
    × IsFirstWrong IsUse (use_in m) resources n r b
UsesWrong m resources waits n (plan.Periods (period_problem.UnknownWait c b)) = (m.blocks ≡ n)
    × AllAre IsUse (use_in m) resources n × IsFirstWrong (IsBlock n) (λ k a. use_in m (resources + k) a) waits n c b
UsesWrong m resources waits n (plan.Engine engine.Memory) = Unit {0}
UsesWrong m resources waits n _ = ⊥

-- so many columns of a model that stand after others have no blocks for which others wait
abbrev pub WaitsWrong : BlocksView → ℕ → ℕ → ℕ → PlanFault → Type 0
WaitsWrong m first waits n (plan.Periods (period_problem.UnknownWait c b)) = IsFirstWrong (IsBlock n)
    (λ k a. use_in m (first + k) a) waits n c b
WaitsWrong m first waits n (plan.Engine engine.Memory) = Unit {0}
WaitsWrong m first waits n _ = ⊥

-- The text has no uses of n blocks: it is no text of blocks with these columns, or is of another number of blocks; or
-- this is the first use that is negative; or none is, and this is the first number that is to be that of a block for
-- which another waits, and isn't.
abbrev pub UsesFail : ℕ → (columns waits text : List ℕ) → PlanFault → Type 0
UsesFail n columns waits text (plan.Engine (engine.Blocks p)) = BlocksFails (columns ++ waits) text p
UsesFail n columns waits text (plan.Engine engine.Memory) = Unit {0}
UsesFail n columns waits text (plan.Engine engine.Device) = Unit {0}
UsesFail n columns waits text (plan.Periods period_problem.BlockCount) = IsWithinLimit text
    × (blocks.blocks_fault_of (columns ++ waits) text ≡ None) × ¬ (blocks.record_count_of text ≡ n)
UsesFail n columns waits text (plan.Periods (period_problem.NegativeUse r b)) = AreBlocksOf n (columns ++ waits) text
    × IsFirstWrong IsUse (in_columns columns text) (length columns) n r b
UsesFail n columns waits text (plan.Periods (period_problem.UnknownWait c b)) = AreBlocksOf n (columns ++ waits) text
    × AllAre IsUse (in_columns columns text) (length columns) n
    × IsFirstWrong (IsBlock n) (in_columns waits text) (length waits) n c b
UsesFail n columns waits text _ = ⊥
