-- The names of this crate that its proofs and the crates above it use, each from its own file.
pub use Rattle.places.specs.Ways.{IsPrecedence, WayLeads, PrecedenceView, listed}
pub use Rattle.places.specs.Implied.{ArePairs, IsImplied, implied, pairs_below, block_pairs}
pub use Rattle.places.specs.Grids.{AreCells, CellsFit, GridFaultStands, GridView, IsFirstSame, IsGrid, LeadAway}
pub use Rattle.places.specs.Grids.{RegionsFit, any_below, block_in, cell_at, first_way, gridded, home_at, leads_at}
pub use Rattle.places.specs.Grids.{low_at, region_at, rests_at, grid_way, ways_at}
pub use Rattle.places.specs.Boxes.{AreLows, AreRaised, IsIn, IsRaised, cell_of, nothing}
pub use Rattle.places.specs.Placed.{AreDeltas, ArePlaced, IsLaidOut, LowsApart, PlacesFaultStands}
pub use Rattle.places.specs.Regions.{AreRegions, HasRegion, IsRegion, RegionColumnFaultStands, column_value_at}
pub use Rattle.places.specs.Held.{pairs_held, shown}
pub use Rattle.places.specs.Holders.{lent, pairs_lent}
pub use Rattle.places.specs.Nodes.{AreNodes, TimedView, in_time, next_node, lagged_node, node_count, node_from}
pub use Rattle.places.specs.Nodes.{node_way, node_ways, own_ways, rests_by_lag, rests_in_period, rests_in_time}
pub use Rattle.places.specs.Timed.{NodesView, timed}
