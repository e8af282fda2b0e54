-- The production that texts denote, and what a schedule of it comes to.
use Rattle.std.specs.Prelude.{◌≡◌, ◌⊎◌, ℕ, ℤ, ◌+◌, ◌*◌, pos, ◌*ℤ◌, Bool, false, ◌<◌, List, length, slice_index}
use Rattle.std.specs.Prelude.{slice_index_or, unwrap_or, None, Option, Result, Ok, Err}
use Rattle.std.specs.Io.KnownBytes.{Appends, Keeps}
use Rattle.counted_devices.specs.Device.{ReceivedPrefix}
use Rattle.prec_file.specs.Rests.{RestsView}
use Rattle.engine_faults.specs.declared.engine_fault.EngineFault.TheVariants as engine
use Rattle.mine_inputs.specs.Prelude.{ArePairsBy, DenoteMine, IsWithinLimit, MineFails, MineTexts, mine_of, most_way}
use Rattle.mine_inputs.specs.Prelude.{rests_of, ways_of, worth_of_way}
use Rattle.periods_file.specs.Periods.{PeriodsView}
use Rattle.schedule_file.specs.Records as schedule
use Rattle.schedule_file.specs.declared.entry.Entry.{Entry}
use Rattle.schedules.specs.Prelude.{Treated, by_ways}
use Rattle.production_figures.specs.Figures.{AreFigures, figures_view}
use Rattle.schedule_value.specs.Prelude.{JudgedView, IsJudged}
use Rattle.schedule_engines.specs.declared.plan_fault.PeriodsProblem.TheVariants as period_problem
use Rattle.schedule_engines.specs.declared.plan_fault.PlanFault.{PlanFault}
use Rattle.schedule_engines.specs.declared.plan_fault.PlanFault.TheVariants as plan
use Rattle.schedule_engines.specs.PlanTexts.{ReadsPeriodsBy}
use Rattle.schedule_engines.specs.WayUses.{PlanReadFails, ReadsWayUses, use_of_way}
use Rattle.schedule_engines.specs.ScheduleLines.{is_clear, schedule_text}

-- The production of the mine of n blocks that texts denote, whose blocks may go one of several ways or to waste: by
-- each
-- a block is worth what it is by it, and uses what the columns of that way have.
abbrev pub treated_of : MineTexts → ℕ → PeriodsView → List ℕ → Treated
treated_of texts n p uses = record {
  mine = mine_of n texts;
  periods = length p.weights;
  ways = λ b. ways_of texts + 1;
  value = λ b way t. worth_of_way texts way b *ℤ pos (slice_index p.weights t);
  resources = length p.shared;
  uses = λ r b way. use_of_way (ways_of texts) p uses r way b;
  capacity = λ r t. pos (slice_index p.capacities (r * length p.weights + t) * 1000000);
  lags = λ b a. false;
}

-- the way that block b goes by a schedule: the one that it names, or the first by which the block is worth most
abbrev pub way_by : MineTexts → (ℕ → Entry) → ℕ → ℕ
way_by texts entries b = unwrap_or (entries b).way (most_way texts b)

-- the entries and the schedule of a text over periods of a mine
abbrev pub entries_by : MineTexts → PeriodsView → List ℕ → ℕ → Entry
entries_by texts said text = schedule.entries_of (length said.weights) (ways_of texts) text

abbrev pub schedule_by : MineTexts → PeriodsView → List ℕ → ℕ → ℕ
schedule_by texts said text = schedule.schedule_of (length said.weights) (ways_of texts) text

-- The texts denote a mine, its periods and a schedule of them, and it is told what this schedule comes to, where each
-- block goes the way that it names or the first by which it is worth most: the blocks that it digs, what they are worth
-- in their periods, of the mine's pairs, each taken once, those that it breaks, of the pairs of blocks that wait those
-- that it digs too early, and where it uses more than there is.
pub record IsTreated (texts : MineTexts) (periods uses text : List ℕ) (v : JudgedView) : Type 0 where
  pub count : ℕ
  pub mine : DenoteMine texts count
  pub said : PeriodsView
  pub read : ReadsPeriodsBy (ways_of texts) periods said
  pub used : List ℕ
  pub waits : RestsView
  pub uses_read : ReadsWayUses count (ways_of texts) said uses used waits
  pub schedule_within : IsWithinLimit text
  pub schedule_read : schedule.fault_of count (length said.weights) (ways_of texts) text ≡ None
  pub pairs : List (ℕ × ℕ)
  pub are : ArePairsBy (rests_of texts) pairs
  pub judged : IsJudged (by_ways (treated_of texts count said uses) (way_by texts (entries_by texts said text)))
      (schedule_by texts said text) pairs said.lag waits.pairs v

-- the same of a mine of n blocks, over periods of which the text says this, and with these pairs of blocks that wait
abbrev pub IsTreatedFor : MineTexts → (periods uses text : List ℕ) → ℕ → PeriodsView → RestsView → JudgedView → Type 0
IsTreatedFor texts periods uses text n said waits v = (t : IsTreated texts periods uses text v) × (t.count ≡ n)
    × (t.said ≡ said) × (t.waits ≡ waits)

-- The texts denote a mine, its periods and a schedule of them whose figures are too large, or too many: what each block
-- is
-- worth and uses by its way.
pub record FiguresLeave (texts : MineTexts) (periods uses text : List ℕ) : Type 0 where
  pub count : ℕ
  pub mine : DenoteMine texts count
  pub said : PeriodsView
  pub read : ReadsPeriodsBy (ways_of texts) periods said
  pub listed : List ℕ
  pub lags : RestsView
  pub uses_read : ReadsWayUses count (ways_of texts) said uses listed lags
  pub schedule_within : IsWithinLimit text
  pub schedule_read : schedule.fault_of count (length said.weights) (ways_of texts) text ≡ None
  pub nanos : List ℤ
  pub used : List ℕ
  pub size : length nanos ≡ count
  pub worths : (b : ℕ) → b < count
      → slice_index_or nanos b (pos 0) ≡ worth_of_way texts (way_by texts (entries_by texts said text) b) b
  pub as_many : length used ≡ length said.shared * count
  pub amounts : (r b : ℕ) → r < length said.shared → b < count
      → pos (slice_index used (r * count + b)) ≡ use_of_way (ways_of texts) said uses r
      (way_by texts (entries_by texts said text) b) b
  pub leave : ¬ (AreFigures (figures_view nanos said.weights (length said.shared) used said.capacities))

-- nothing is told of a schedule for want of memory, or where the figures are too large
abbrev pub NoJudgement : MineTexts → List ℕ → List ℕ → List ℕ → PlanFault → Type 0
NoJudgement texts periods uses text (plan.Engine engine.Memory) = Unit {0}
NoJudgement texts periods uses text (plan.Periods period_problem.TooLarge) = FiguresLeave texts periods uses text
NoJudgement texts periods uses text _ = ⊥

-- a fault of the texts of the mine
abbrev pub MineAtFault : MineTexts → PlanFault → Type 0
MineAtFault texts (plan.Engine fault) = MineFails texts fault
MineAtFault texts _ = ⊥

-- Why the engine answers a fault: it is one of the texts of the mine; or, where they are read, one of the texts beside
-- them; or the figures of all of them are too large. Want of memory and a failing device say nothing of the texts.
abbrev pub PlanFails : MineTexts → List ℕ → List ℕ → List ℕ → PlanFault → Type 0
PlanFails texts periods uses text e = MineAtFault texts e
    ⊎ (((n : ℕ) × DenoteMine texts n × PlanReadFails n (ways_of texts) periods uses text e)
    ⊎ (NoJudgement texts periods uses text e ⊎ (e ≡ plan.Engine engine.Device)))

-- what is in the writer at a fault: what was there before, unless a device failed; then perhaps a prefix of an answer
-- too
abbrev pub WritesSchedulePrefix : MineTexts → List ℕ → List ℕ → List ℕ → Option (List ℕ) → Option (List ℕ) → Type 0
WritesSchedulePrefix texts periods uses text old new = Keeps old new
    ⊎ ((v : JudgedView) × IsTreated texts periods uses text v × ReceivedPrefix old new (schedule_text v))

abbrev pub WritesAtFault : MineTexts → List ℕ → List ℕ → List ℕ → Option (List ℕ) → Option (List ℕ) → PlanFault → Type 0
WritesAtFault texts periods uses text old new (plan.Engine engine.Device) = WritesSchedulePrefix texts periods uses
    text old new
WritesAtFault texts periods uses text old new _ = Keeps old new

-- the answer, and what was written with it
abbrev pub Writes : MineTexts → List ℕ → List ℕ → List ℕ → Option (List ℕ) → Option (List ℕ) → Result Bool PlanFault
    → Type 0
Writes texts periods uses text old new (Ok feasible) = (v : JudgedView) × IsTreated texts periods uses text v
    × (feasible ≡ is_clear v.broken v.early v.over) × Appends old new (schedule_text v)
Writes texts periods uses text old new (Err fault) = PlanFails texts periods uses text fault
    × WritesAtFault texts periods uses text old new fault
