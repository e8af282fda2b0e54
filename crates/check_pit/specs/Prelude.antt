-- The names of this crate that its proofs and the crates above it use, each from its own file.
pub use Rattle.check_pit.specs.Balances.{BalanceFault, ComesTo}
pub use Rattle.check_pit.specs.CertStreams.{CertView, IsReadFor, StandsAt}
pub use Rattle.check_pit.specs.Checks.{AllBalanced, AllWithin, BalanceStands, BalancedWhileFit, FaultHolds, IsOfNet}
pub use Rattle.check_pit.specs.Checks.{IsOpen, IsSound, KeepsWithin, NoneBefore, NoneBelowZero, PassesCapacities}
pub use Rattle.check_pit.specs.Checks.{PassesSigns, PitFaultStands, ProvesPit, Sizes, StayBefore, StaysAt}
pub use Rattle.check_pit.specs.Closing.{HoldsAbove, HoldsEach, IsFirstLack, IsFirstOpen, IsLacking, IsLeastLacking}
pub use Rattle.check_pit.specs.Closing.{least_with, lesser_number}
pub use Rattle.check_pit.specs.Fits.{BalanceFits, BalanceOverflows, EndFits, EndOverflows, ResidualFits}
pub use Rattle.check_pit.specs.Fits.{ResidualOverflows, SetFits, SetOverflows, SomeBalanceOverflows, SomeSumOverflows}
pub use Rattle.check_pit.specs.Fits.{SumsFit}
pub use Rattle.check_pit.specs.LineLaws.{LineSumsTell, LinesTell}
pub use Rattle.check_pit.specs.LineSums.{KeepLimits, SomeLineSumOverflows, balance_of, brings_by, flow_of, keeps_by}
pub use Rattle.check_pit.specs.LineSums.{residual_after, source_by, source_sum, worth_of_blocks}
pub use Rattle.check_pit.specs.PitLists.{PitListView, blocks_of_pit}
pub use Rattle.check_pit.specs.Rooms.{AreSumsOf, IsFirstUnbalanced, IsNegative, IsOverLimit, IsRoomFor, LineRefused}
pub use Rattle.check_pit.specs.Rooms.{MayPut, Puts, PutsLine, RefusedWhere, RefusesLine, RoomView, SumOverflowsWith}
pub use Rattle.check_pit.specs.Rooms.{TakesBlock, TellsTight, WithLine, with_balance, with_left}
pub use Rattle.check_pit.specs.StreamChecks.{AreZero, BodyFails, BodyProves, BodyRefused, ClosesPit, EndFails, HasPit}
pub use Rattle.check_pit.specs.StreamChecks.{IsDone, IsOpenPit, IsWholeBody, LinesBegin, ReadsOn, RefusesSome, SumsFail}
pub use Rattle.check_pit.specs.StreamChecks.{SumsSettle, fault_of_body, first_pits, flow_by, is_after_pits, is_pit}
pub use Rattle.check_pit.specs.StreamChecks.{lines_of_body}
pub use Rattle.check_pit.specs.StreamHeaders.{GivesHeader, LacksHeader, ReadsHeader, ReadsNoHeader}
pub use Rattle.check_pit.specs.StreamLines.{DoneOrNot, IsLine, IsNoLine, MoreOrEnd, NoLine, NotDone, ReadsBytes}
pub use Rattle.check_pit.specs.StreamLines.{ReadsSome}
pub use Rattle.check_pit.specs.StreamView.{LineView}
pub use Rattle.check_pit.specs.TakenLines.{AlwaysGives, FaultIs, LinePassed, LacksLine, NoNextLine, NoPitFault}
pub use Rattle.check_pit.specs.TakenLines.{PassesLine, TakesLine, held_piece}
