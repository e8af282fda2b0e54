-- The region of each block, as slopes by region have it.
use Rattle.std.specs.Prelude.{◌≡◌, ℕ, ◌<◌, List, Some, length, slice_index_or}
use Rattle.blocks_file.specs.Denotes.{BlocksView}
use Rattle.slope.specs.Prelude.{region_of}

-- the regions of all blocks, each among so many
pub record AreOwnRegions (m : BlocksView) (count : ℕ) (regions : List ℕ) : Type 0 where
  pub size : length regions ≡ m.blocks
  pub each : (b : ℕ) → b < m.blocks → region_of m b ≡ Some (slice_index_or regions b 0)
  pub below : (b : ℕ) → b < m.blocks → slice_index_or regions b 0 < count
