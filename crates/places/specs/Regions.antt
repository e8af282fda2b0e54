-- The region of each block, by a column of its model.
use Rattle.std.specs.Prelude.{◌≡◌, ℕ, ◌*◌, ◌<◌, ℤ, pos, List, [], length, slice_index_or}
use Rattle.blocks_file.specs.Denotes.{BlocksView}
use Rattle.prec_file.specs.Rests.{IsFirstNot}
use Rattle.places.specs.declared.region_column_fault.RegionColumnFault.{RegionColumnFault}
use Rattle.places.specs.declared.region_column_fault.RegionColumnFault.TheVariants.{NoRegion, NoMemory}

-- the value in millionths is the whole number r, which is below that of the regions
pub record IsRegion (value : ℤ) (count r : ℕ) : Type 0 where
  pub below : r < count
  pub whole : value ≡ pos (r * 1000000)

-- a block's value of a column
abbrev pub column_value_at : BlocksView → ℕ → ℕ → ℤ
column_value_at m column b = slice_index_or (slice_index_or m.columns column []) b (pos 0)

-- the regions of the first n blocks
pub record AreRegions (m : BlocksView) (column count n : ℕ) (regions : List ℕ) : Type 0 where
  pub size : length regions ≡ n
  pub each : (b : ℕ) → b < n → IsRegion (column_value_at m column b) count (slice_index_or regions b 0)

-- the block has a region
abbrev pub HasRegion : BlocksView → ℕ → ℕ → ℕ → Type 0
HasRegion m column count b = (r : ℕ) × IsRegion (column_value_at m column b) count r

-- The fault stands: the first block without a region.
abbrev pub RegionColumnFaultStands : BlocksView → ℕ → ℕ → RegionColumnFault → Type 0
RegionColumnFaultStands m column count (NoRegion b) = IsFirstNot (HasRegion m column count) m.blocks b
RegionColumnFaultStands m column count NoMemory = Unit {0}
