-- The names of this crate that its proofs and the crates above it use, each from its own file.
pub use Rattle.series_pits.specs.Parting.{AreHalved, AreJoined, ArePriced, IsBestAmong, IsFewNet, IsLeft, IsNetAmong}
pub use Rattle.series_pits.specs.Parting.{IsPart, IsSearchLevel, LiesBetweenLists, NoPitStands, NoSumStands}
pub use Rattle.series_pits.specs.Parting.{PartSumLeaves, mine_among}
pub use Rattle.series_pits.specs.PitsAtFactors.{IsAdded, IsBestOf, IsProved, NoNetStands}
pub use Rattle.series_pits.specs.SettledSeries.{IsNetAt, IsSettled, NoSeriesStands, NotSolvedStands}
pub use Rattle.series_pits.specs.ShellTable.{AreRowsOf, IsLineOf, IsRowOf, row_text, shell_row_line, shell_table_text}
