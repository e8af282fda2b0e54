-- The names of this crate that its proofs and the crates above it use, each from its own file.
pub use Rattle.slope_offsets.specs.Gathering.{AreFirstSteps, AreRegionSteps, AreStepsOfEach, AreStepsOfRegions}
pub use Rattle.slope_offsets.specs.Gathering.{AreStepsTo, Collects, HoldsOf, IsBelowLevel, IsBelowPoint, IsBelowRow}
pub use Rattle.slope_offsets.specs.Gathering.{IsFirstStep, IsLevel, OffsetRefusalStands, offset_at, rest_after}
pub use Rattle.slope_offsets.specs.Lists.{AreMoreThan}
pub use Rattle.slope_offsets.specs.Offsets.{AreOffsets, AreOffsetsRising, IsPattern, IsUpward, Offset, OffsetBefore}
pub use Rattle.slope_offsets.specs.Offsets.{listed_at}
pub use Rattle.slope_offsets.specs.Patterns.{ConeFaultStands, IsInCone, IsNear, ListFaultStands, UpwardAt, five_offsets}
pub use Rattle.slope_offsets.specs.Patterns.{nine_offsets, square}
