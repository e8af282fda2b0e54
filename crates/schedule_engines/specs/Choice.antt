-- The ways that blocks go by a schedule that was read, and what they are worth and use by them.
use Rattle.std.specs.Prelude.{◌≡◌, ℕ, ◌+◌, ◌*◌, ◌/◌, ◌%◌, ◌<◌, ℤ, pos, Bool, false, cond, nat_lt, List, map, length}
use Rattle.std.specs.Prelude.{slice_index, slice_index_or, unwrap_or}
use Rattle.prec_file.specs.Rests.{RestsView, IsRests}
use Rattle.engine_faults.specs.declared.engine_fault.EngineFault.TheVariants as engine
use Rattle.mine_inputs.specs.declared.worths.Worths.{Worths}
use Rattle.mine_inputs.specs.Prelude.{ArePairsBy, DenoteMine, MineTexts, rests_of, way_valued, ways_of, ways_valued}
use Rattle.mine_inputs.specs.Prelude.{worth_of_way, worth_valued}
use Rattle.periods_file.specs.Periods.{PeriodsView, periods_view}
use Rattle.schedule_file.specs.Records.{no_entry}
use Rattle.schedule_file.specs.declared.entry.Entry.{Entry}
use Rattle.production_figures.specs.Figures.{AreFigures, FiguresView, figures_view, production_of}
use Rattle.schedule_value.specs.Prelude.{IsJudged, JudgedView, period_by}
use Rattle.schedule_engines.specs.declared.plan_read.PlanRead.{PlanRead}
use Rattle.schedule_engines.specs.declared.plan_fault.PeriodsProblem.TheVariants as period_problem
use Rattle.schedule_engines.specs.declared.plan_fault.PlanFault.{PlanFault}
use Rattle.schedule_engines.specs.declared.plan_fault.PlanFault.TheVariants as plan
use Rattle.schedule_engines.specs.PlanTexts.{ReadsEntries, ReadsPeriodsBy}
use Rattle.schedule_engines.specs.Schedules.{entries_by, schedule_by, way_by}
use Rattle.schedule_engines.specs.WayUses.{ReadsWayUses, use_of_way}

-- the way that block b goes by entries: the one that its entry names, or the first by which it is worth most
abbrev pub way_chosen : Worths → ℕ → List Entry → ℕ → ℕ
way_chosen worths factor entries b = unwrap_or (slice_index_or entries b (no_entry 0)).way (way_valued worths factor b)

-- the list has f i at each place i below n
pub record AreListed (n : ℕ) (f : ℕ → ℕ) (xs : List ℕ) : Type 0 where
  pub size : length xs ≡ n
  pub at : (i : ℕ) → i < n → slice_index xs i ≡ f i

-- what block b uses of resource r by a way, as it is listed way by way and row by row for each resource of n blocks
abbrev pub amount_by : List ℕ → List Bool → (ways n r way b : ℕ) → ℕ
amount_by amounts shared ways n r way b =
    cond (slice_index_or shared r false) (slice_index amounts (r * n + b))
    (cond (nat_lt way ways) (slice_index amounts (way * (length shared * n) + (r * n + b))) 0)

-- The lists are those of the ways that are chosen: what each block is worth and uses by its way, and its period.
pub record AreChosen (worths : Worths) (factor n : ℕ) (read : PlanRead) (nanos : List ℤ) (used schedule : List ℕ) :
    Type 0 where
  pub valued : length nanos ≡ n
  pub each : (b : ℕ) → b < n → slice_index_or nanos b (pos 0) ≡ worth_valued worths factor
      (way_chosen worths factor read.entries.items b) b
  pub as_many : length used ≡ length read.periods.shared.items * n
  pub amounts : (i : ℕ) → i < length read.periods.shared.items * n
      → slice_index used i ≡ amount_by read.uses.items read.periods.shared.items (ways_valued worths) n (i / n)
      (way_chosen worths factor read.entries.items (i % n)) (i % n)
  pub dug : schedule ≡ map (λ e. e.period) read.entries.items

-- A mine, its periods and a schedule: the figures by the ways that are chosen, and what was read beside them.
pub record PlannedView : Type 0 where
  pub nanos : List ℤ
  pub predecessors : RestsView
  pub periods : PeriodsView
  pub uses : List ℕ
  pub waits : RestsView
  pub schedule : List ℕ

abbrev pub planned_as : RestsView → PlanRead → List ℤ → List ℕ → List ℕ → PlannedView
planned_as rests read nanos used schedule = record {
  nanos = nanos;
  predecessors = rests;
  periods = periods_view read.periods;
  uses = used;
  waits = read.waits;
  schedule = schedule;
}

-- the figures of what was planned
abbrev pub figures_of : PlannedView → FiguresView
figures_of q = figures_view q.nanos q.periods.weights (length q.periods.shared) q.uses q.periods.capacities

-- what was planned comes to this
abbrev pub IsJudgedOf : PlannedView → JudgedView → Type 0
IsJudgedOf q v = IsRests q.predecessors × IsRests q.waits
    × IsJudged (production_of q.predecessors.pairs (figures_of q)) (period_by q.schedule) q.predecessors.pairs
    q.periods.lag q.waits.pairs v

-- it isn't judged: for want of memory, since its figures are too large, or since it isn't of one number of blocks
abbrev pub JudgeFails : PlannedView → PlanFault → Type 0
JudgeFails q (plan.Engine engine.Memory) = Unit {0}
JudgeFails q (plan.Engine (engine.Model fault)) = ¬ ((length q.nanos ≡ q.predecessors.blocks)
    × (length q.schedule ≡ q.predecessors.blocks) × (q.waits.blocks ≡ q.predecessors.blocks))
JudgeFails q (plan.Periods period_problem.TooLarge) = ¬ (AreFigures (figures_of q))
JudgeFails q _ = ⊥

-- a fault of what was planned: none of a text, nor of a device
abbrev pub IsUnjudged : PlanFault → Type 0
IsUnjudged (plan.Engine engine.Memory) = Unit {0}
IsUnjudged (plan.Engine (engine.Model fault)) = Unit {0}
IsUnjudged (plan.Periods period_problem.TooLarge) = Unit {0}
IsUnjudged _ = ⊥

-- These are the figures of a mine, its periods and a schedule that the texts denote, in which each block goes its way.
pub record IsPlannedBy (texts : MineTexts) (periods uses text : List ℕ) (rests : RestsView) (said : PeriodsView)
    (lags : RestsView) (nanos : List ℤ) (used schedule : List ℕ) : Type 0 where
  pub mine : DenoteMine texts rests.blocks
  pub pairs : ArePairsBy (rests_of texts) rests.pairs
  pub read : ReadsPeriodsBy (ways_of texts) periods said
  pub listed : List ℕ
  pub uses_read : ReadsWayUses rests.blocks (ways_of texts) said uses listed lags
  pub entries : List Entry
  pub schedule_read : ReadsEntries rests.blocks (length said.weights) (ways_of texts) text entries
  pub valued : length nanos ≡ rests.blocks
  pub worths : (b : ℕ) → b < rests.blocks
      → slice_index_or nanos b (pos 0) ≡ worth_of_way texts (way_by texts (entries_by texts said text) b) b
  pub as_many : length used ≡ length said.shared * rests.blocks
  pub amounts : (r b : ℕ) → r < length said.shared → b < rests.blocks
      → pos (slice_index used (r * rests.blocks + b)) ≡ use_of_way (ways_of texts) said uses r
      (way_by texts (entries_by texts said text) b) b
  pub scheduled : length schedule ≡ rests.blocks
  pub dug : (b : ℕ) → b < rests.blocks → period_by schedule b ≡ schedule_by texts said text b

abbrev pub IsPlannedOf : MineTexts → (periods uses text : List ℕ) → PlannedView → Type 0
IsPlannedOf texts periods uses text q = IsPlannedBy texts periods uses text q.predecessors q.periods q.waits q.nanos
    q.uses q.schedule
