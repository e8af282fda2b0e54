-- The names of this crate that its proofs and the crates above it use, each from its own file.
pub use Rattle.word_runner.specs.CutNets.{AreCut, AreGains, AreLosses, AreRooms, AreSinks, AreUnits, AreWithin, IsCut}
pub use Rattle.word_runner.specs.CutNets.{IsCutNet, IsCutWorth, net_with_worths, scaled_parts}
pub use Rattle.word_runner.specs.Ends.{CloseFaultStands, EndFaultStands, IsQuietEnd, IsSolvedBy, SomeCutRunIsTooLarge}
pub use Rattle.word_runner.specs.Ends.{SomeRunIsTooLarge, WordRunFaultStands, WordSolveFaultStands, settle_fault}
pub use Rattle.word_runner.specs.Ends.{solve_fault}
pub use Rattle.word_runner.specs.Openings.{AreFirst, AreNeitherOneNorTwo, AreOpenedSeats, IsBegun, IsFirst}
pub use Rattle.word_runner.specs.Openings.{OpeningFaultStands, WordsFaultStands}
pub use Rattle.word_runner.specs.Runs.{AreSeats, IsGreatestUncut, IsOpenRunOf, IsQuietRunOf, IsRound, IsRunOf}
pub use Rattle.word_runner.specs.Runs.{IsRunSettled, SeatHasServed, SettleFaultStands, SomeIsBusy, steps_made_by}
pub use Rattle.word_runner.specs.Seats.{HasArrived, HasLoaded, IsFlowOfWords, IsServed, IsServing, IsTold, IsTooLarge}
pub use Rattle.word_runner.specs.Seats.{IsTurnOf, IsWordTurn, IsWords, IsWorker, Own, WordsView, had_stopped, pushed}
pub use Rattle.word_runner.specs.Seats.{raises}
