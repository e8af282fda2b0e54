-- The names of this crate that its proofs and the crates above it use, each from its own file.
pub use Rattle.sub_mines.specs.Among.{ArePlacesAmong, AreRowsAmong, AreRowsAnd, IsAmong}
pub use Rattle.sub_mines.specs.AmongGrids.{AmongView, AreAmong, among, place_of, rests_among}
pub use Rattle.sub_mines.specs.Laws.{AlwaysBounded, BestBetween, BestBounds, BestByNumbers, BestByPart, BestBySmallMine}
pub use Rattle.sub_mines.specs.Laws.{BestOfRest, BestWithin, KnownByBest, KnownByBounds, ListsMakeImages, PartOfBest}
pub use Rattle.sub_mines.specs.Laws.{PassingAreKept, RowBySmallMine}
pub use Rattle.sub_mines.specs.Parts.{HasBetween, IsAsGood, IsCeiling, IsFloor, LiesBetween, difference_of, every_block}
pub use Rattle.sub_mines.specs.Parts.{intersection_of, no_block, part, union_of}
pub use Rattle.sub_mines.specs.Renumbered.{IsImage, IsKept, IsListed, IsPartPairs, IsRenumbered, number_in}
