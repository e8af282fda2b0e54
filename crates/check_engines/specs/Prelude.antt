-- The names of this crate that its proofs and the crates above it use, each from its own file.
pub use Rattle.check_engines.specs.Checking.{AcceptsUnlessHindered, Checks, Hinders, IsTooManyToList, LineFails}
pub use Rattle.check_engines.specs.Checking.{SoundIsAccepted, WritesAccepted, CheckWritesAtFault, WritesFront}
pub use Rattle.check_engines.specs.Checking.{WritesRefused}
pub use Rattle.check_engines.specs.FaultStands.{BodyTextFails, CertificateFails, Fails, HeaderFails, ModelFails}
pub use Rattle.check_engines.specs.FaultStands.{NetFails, PriceDiffers}
pub use Rattle.check_engines.specs.Judgements.{CertificateAccepted, CertificateRefused, IsTrueJudgement}
pub use Rattle.check_engines.specs.Judging.{IsFresh, IsUndecided, Judges, StandsAfter, factor_in, factor_named}
pub use Rattle.check_engines.specs.Judging.{of_stream}
pub use Rattle.check_engines.specs.Nested.{AcceptedAreNested, IsOneTable}
pub use Rattle.check_engines.specs.OutputLines.{fault_line, fault_words, group_mark, input_word, judgement_line}
pub use Rattle.check_engines.specs.OutputLines.{problem_words}
pub use Rattle.check_engines.specs.Readings.{IsGroupNamed, IsHeader, IsProvedPit, Reads, TellsSizes, block_by}
pub use Rattle.check_engines.specs.Readings.{counts_by}
pub use Rattle.check_engines.specs.Refusals.{IsFaultless, SaysPit, SomeSumLeaves, TextBegins, TextRefused}
pub use Rattle.check_engines.specs.Refusals.{TextRefusesLine, flow_for, lines_for}
pub use Rattle.check_engines.specs.SlopePairs.{AreSlopePairs, SlopesAreTheirPairs, ValuedSlopesAreTheirPairs}
pub use Rattle.check_engines.specs.Verdicts.{verdict_of}
