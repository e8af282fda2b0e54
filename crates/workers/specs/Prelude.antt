-- The names of this crate that its proofs and the crates above it use, each from its own file.
pub use Rattle.workers.specs.Auditing.{AuditFaultStands, AuditRunFaultStands, FillsItsRoom, IsAudit, IsAuditLeft}
pub use Rattle.workers.specs.Auditing.{IsAuditLoss, IsCutOffAfter, IsHistory, IsSomeHistory, OverflowsAfter, lost_by}
pub use Rattle.workers.specs.Auditing.{most_room}
pub use Rattle.workers.specs.Runs.{IsCutOff, Settles, SomeStepOverflows, most_steps}
pub use Rattle.workers.specs.Solving.{AreBadWorkers, IsBoardLeft, IsLoss, RunFaultStands, SolveFaultStands}
