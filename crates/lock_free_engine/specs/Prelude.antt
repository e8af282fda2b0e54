-- The names of this crate that its proofs and the crates above it use, each from its own file.
pub use Rattle.lock_free_engine.specs.LockFreeRuns.{HasWords, LockFreeCheckOverflows, LockFreeStands}
pub use Rattle.lock_free_engine.specs.LockFreeRuns.{SomeLockFreeNumberOverflows, SomeWordOverflows}
pub use Rattle.lock_free_engine.specs.LockFreeSolving.{AnswersMineWithoutLock, AnswersNetWithoutLock}
pub use Rattle.lock_free_engine.specs.LockFreeSolving.{AtFaultWithoutLock, FailsWithoutLock, IsDueWithoutLock}
pub use Rattle.lock_free_engine.specs.LockFreeSolving.{IsNoWithoutLock, SolvesNetWithoutLock, SolvesWithoutLock}
pub use Rattle.lock_free_engine.specs.LockFreeSolving.{WritesFrontWithoutLock, lock_free_group}
pub use Rattle.lock_free_engine.specs.Tightness.{RunsAreTight}
