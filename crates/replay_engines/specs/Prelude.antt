-- The names of this crate that its proofs and the crates above it use, each from its own file.
pub use Rattle.replay_engines.specs.Histories.{HistoriesAreReplayed, TellsFlow}
pub use Rattle.replay_engines.specs.Outcomes.{EndsOpen, EndsQuiet, IsFlowAccepted, IsFlowJudged, IsFlowRefused}
pub use Rattle.replay_engines.specs.Outcomes.{IsOutcome, outcome_text, outcome_verdict}
pub use Rattle.replay_engines.specs.Replays.{ComesOf, IsReplay, NothingComes, ReplayAtFault, ReplayFails, Replays}
pub use Rattle.replay_engines.specs.Replays.{WritesReplayPrefix}
pub use Rattle.replay_engines.specs.TraceTexts.{IsTrace, ReadsTrace, TraceFails, TraceReadFails}
