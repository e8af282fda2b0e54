-- The names of this crate that its proofs and the crates above it use, each from its own file.
pub use Rattle.async_step.specs.Answers.{CannotGo, Fits, GoesTo, IsNext, IsRefusedAt, IsStateOf, IsStepRefused}
pub use Rattle.async_step.specs.Answers.{IsStepTaken, IsWaiting, Leads, LeadsTelling, RefusalStands, ReplayFaultStands}
pub use Rattle.async_step.specs.Answers.{StateStays, answer, answer_at, answer_beyond, answer_by, answer_of, saw_as}
pub use Rattle.async_step.specs.Changes.{CanChange, after_change, change_as, lists_after_change}
pub use Rattle.async_step.specs.FaultText.{replay_fault_text, step_refusal_text}
pub use Rattle.async_step.specs.Marks.{CanShift, IsCounted, IsFirstRound, IsFirstWithin, IsMarks, NoneWithin, ahead_of}
pub use Rattle.async_step.specs.Marks.{count_after_shift, mark_at}
unfoldable pub use Rattle.async_step.specs.Marks.{run_count}
pub use Rattle.async_step.specs.Scans.{IsScanAt, after_capacity_by, after_label_by, has_read, operation_after_look}
pub use Rattle.async_step.specs.Scans.{read_or_zero, with_candidate}
pub use Rattle.async_step.specs.Views.{IsMarked, IsSized, IsState, StateView, is_busy, is_waiting, operation_at}
pub use Rattle.async_step.specs.Views.{state_of, view_of}
