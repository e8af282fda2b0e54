-- The names of this crate that its proofs and the crates above it use, each from its own file.
pub use Rattle.boards.specs.Audits.{AuditGoesOn, AuditView, Halts, HasAuditEnded, HasAuditSettled, HasWritten}
pub use Rattle.boards.specs.Audits.{IsAuditEnd, IsAuditOpened, IsAuditTurn, IsAudited, IsFull, IsHistoryFull, IsToldAs}
pub use Rattle.boards.specs.Audits.{MayWrite, audit_of}
pub use Rattle.boards.specs.Boards.{BoardView, HasRefused, HasSettled, HasStepped, IsBoard, IsOpened, IsTurnBoard}
pub use Rattle.boards.specs.Boards.{blocks_of_board, board_view, shown_state}
pub use Rattle.boards.specs.Ends.{AreIdleBelow, GoesOn, HasEnded, IsAlone, IsCutOffAt}
pub use Rattle.boards.specs.Records.{IsRecordOpened, RecordGoesOn, RecordView, RecordsTurns, Writes, events_after}
pub use Rattle.boards.specs.Records.{record_view, written_after, written_by}
pub use Rattle.boards.specs.Runs.{AreTurnsBetween, AreTurnsTo, IsMadeByTurns, IsReplayedTo, SomeNextOverflows}
pub use Rattle.boards.specs.Runs.{SomeRunOverflows}
pub use Rattle.boards.specs.Turns.{HasNoOwn, HasNoneDue, HasServed, IsAtLimit, IsBlockDue, IsGoing, IsOwn, IsPicked}
pub use Rattle.boards.specs.Turns.{IsRunOver, IsStepOf, IsStuck, IsTurn, IsTurnEnd, IsUncounted, IsUnserved, OfDue}
pub use Rattle.boards.specs.Turns.{Sticks}
