-- The names of this crate that its proofs and the crates above it use, each from its own file.
pub use Rattle.slope.specs.Gathering.{AreEntries, AreEntriesInOrder, AreEntriesOf, AreListedBelow, AreOfListed}
pub use Rattle.slope.specs.Gathering.{ArePlacesOf, AreSeen, BeforeEntry, Entry, HaveNoRepeat, HaveRegions}
pub use Rattle.slope.specs.Gathering.{IndexFaultStands, IsEarlierRepeat, IsEarliestAmong, IsEarliestRepeat}
pub use Rattle.slope.specs.Gathering.{IsEndOrBelow, IsFinding, IsIndex, IsPairBelow, IsPairUpTo, IsPlace, IsRepeatAt}
pub use Rattle.slope.specs.Gathering.{IsSight, IsStartOrAbove, LiesAtNone, LiesAtSome, StandsBetween, PairFaultStands}
pub use Rattle.slope.specs.Gathering.{PairRefusalStands, RegionRefusalStands, StandsAtOffset, StandsNone}
pub use Rattle.slope.specs.Gathering.{SurroundingsView, entry_at, entry_of, own_by, owns, place_key, region_by}
pub use Rattle.slope.specs.Gathering.{region_fault_of}
pub use Rattle.slope.specs.Slopes.{AreAllUpward, AreApartBelow, AreOwnSlopes, ArePlacedInRegions, AreListedRegions}
pub use Rattle.slope.specs.Slopes.{AreRightSlopes, AreSlopes, GivePairs, HasFew, HaveAllFew, IsAllUpward, IsClosedBy}
pub use Rattle.slope.specs.Slopes.{IsFirstNotUpward, IsFirstOutside, IsFirstRepeat, IsFirstWide, IsOwnPair}
pub use Rattle.slope.specs.Slopes.{IsListedRegion, IsSelected, IsSlopePair, LeadsOver, RegionFaultStands}
pub use Rattle.slope.specs.Slopes.{SlopeFaultStands, is_offset, offset_between, region_offsets, own_offsets}
pub use Rattle.slope.specs.Slopes.{block_place, region_of, rests, rests_by_slopes, upward, whole_millionths}
