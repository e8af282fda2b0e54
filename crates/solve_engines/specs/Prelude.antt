-- The names of this crate that its proofs and the crates above it use, each from its own file.
pub use Rattle.solve_engines.specs.Certification.{IsRefusedFlow, IsSolution, UncertifiedStands}
pub use Rattle.solve_engines.specs.NetAnswers.{SendsCertificate, SendsLine, SendsNo, Withholds, certificate_text}
pub use Rattle.solve_engines.specs.NetAnswers.{no_line, too_large_line, unsettled_line}
pub use Rattle.solve_engines.specs.Placed.{IsAcceptedText, IsPlacedCertificate, SendsText, held_net}
pub use Rattle.solve_engines.specs.Small.{AreSmall, AreSmallWorths, IsSmallAmount, IsSmallFlow, IsSmallWorth}
pub use Rattle.solve_engines.specs.Solving.{AnswersMine, AnswersNet, CheckOverflows, IsCertificate, IsCertificateOf}
pub use Rattle.solve_engines.specs.Solving.{IsDueFor, IsNetBy, IsNoOf, IsTextOf, MachineStands, MayGiveUp, SolveAtFault}
pub use Rattle.solve_engines.specs.Solving.{SolveFails, Solves, SolvesNet, SomeNumberOverflows, UnsolvedStands}
pub use Rattle.solve_engines.specs.Solving.{WritesSolveFront, unsolved_by}
