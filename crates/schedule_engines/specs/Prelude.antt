-- The names of this crate that its proofs and the crates above it use, each from its own file.
pub use Rattle.schedule_engines.specs.Choice.{AreChosen, AreListed, IsJudgedOf, IsPlannedBy, IsPlannedOf, IsUnjudged}
pub use Rattle.schedule_engines.specs.Choice.{JudgeFails, PlannedView, amount_by, figures_of, planned_as, way_chosen}
pub use Rattle.schedule_engines.specs.FaultText.{periods_problem_line, periods_problem_text, periods_problem_words}
pub use Rattle.schedule_engines.specs.FaultText.{schedule_problem_line, schedule_problem_text, schedule_problem_words}
pub use Rattle.schedule_engines.specs.PlanDevices.{ForPlan, IsPlanRead, PlanCanCount, plan_failures}
pub use Rattle.schedule_engines.specs.PlanTexts.{AreBlocksOf, EntriesFail, PeriodsByFail, ReadsEntries, ReadsPeriodsBy}
pub use Rattle.schedule_engines.specs.PlanTexts.{ReadsUses, UsesFail, UsesWrong, WaitsWrong, in_columns}
pub use Rattle.schedule_engines.specs.ScheduleLines.{LinesFail, early_text, is_clear, over_line, over_text, pair_line}
pub use Rattle.schedule_engines.specs.ScheduleLines.{pairs_text, schedule_text}
pub use Rattle.schedule_engines.specs.Schedules.{FiguresLeave, IsTreated, IsTreatedFor, MineAtFault, NoJudgement}
pub use Rattle.schedule_engines.specs.Schedules.{PlanFails, Writes, WritesAtFault, WritesSchedulePrefix, entries_by}
pub use Rattle.schedule_engines.specs.Schedules.{schedule_by, treated_of, way_by}
pub use Rattle.schedule_engines.specs.Uses.{AllAre, AreUses, AreWaits, HasWaits, IsBlock, IsFirstWrong, IsUse}
pub use Rattle.schedule_engines.specs.Uses.{first_pairs, use_in, waits_by}
pub use Rattle.schedule_engines.specs.WayUses.{HasUses, LaterFailsBy, PlanReadFails, ReadsPart, ReadsWayUses}
pub use Rattle.schedule_engines.specs.WayUses.{WayUsesFail, columns_by, columns_of, is_shared, use_of_way}
