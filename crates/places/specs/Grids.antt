-- Places in a padded box, by numbers of cells.
use Rattle.std.specs.Prelude.{All, ◌≡◌, ◌≢◌, ℕ, zero, suc, ◌+◌, ◌-◌, ◌^◌, ◌<◌, ◌≤◌, ◌==◌, ◌&&◌, ◌||◌, nat_lt, Bool}
use Rattle.std.specs.Prelude.{false, Option, Some, None, List, length, slice_index_or}
use Rattle.fixed_worth.specs.declared.limits.TheConstants.{MOST_BLOCKS}
use Rattle.places.specs.Ways.{PrecedenceView}
use Rattle.places.specs.declared.cells.GridFault.{GridFault}
use Rattle.places.specs.declared.cells.GridFault.TheVariants.{SamePlace, TooWide, NoMemory}

-- Of each block its cell in the box without padding on its low sides, and its region; what leads from there to its own
-- cell in the padded box; where each region's deltas begin, and all deltas; and of each cell of the padded box its
-- block and one, or 0.
pub record GridView : Type 0 where
  pub lows : List ℕ
  pub regions : List ℕ
  pub centre : ℕ
  pub starts : List ℕ
  pub deltas : List ℕ
  pub cells : List ℕ

abbrev pub low_at : GridView → ℕ → ℕ
low_at g b = slice_index_or g.lows b 0

-- the cell of block p in the padded box
abbrev pub home_at : GridView → ℕ → ℕ
home_at g p = low_at g p + g.centre

abbrev pub region_at : GridView → ℕ → ℕ
region_at g b = slice_index_or g.regions b 0

-- the first delta of the block's own region, and how many it has
abbrev pub first_way : GridView → ℕ → ℕ
first_way g b = slice_index_or g.starts (region_at g b) 0

abbrev pub ways_at : GridView → ℕ → ℕ
ways_at g b = slice_index_or g.starts (region_at g b + 1) 0 - first_way g b

-- the cell to which way k of b leads
abbrev pub cell_at : GridView → ℕ → ℕ → ℕ
cell_at g b k = low_at g b + slice_index_or g.deltas (first_way g b + k) 0

-- the block of a cell, if one is there
abbrev pub block_in : ℕ → Option ℕ
block_in zero = None
block_in (suc b) = Some b

abbrev pub grid_way : GridView → ℕ → ℕ → Option ℕ
grid_way g b k = block_in (slice_index_or g.cells (cell_at g b k) 0)

-- whether a number below m passes
abbrev pub any_below : (ℕ → Bool) → ℕ → Bool
any_below test zero = false
any_below test (suc m) = test m || any_below test m

-- whether one of the first m ways of b leads to the cell of p
abbrev pub leads_at : GridView → ℕ → ℕ → ℕ → Bool
leads_at g b p m = any_below (λ k. cell_at g b k == home_at g p) m

-- whether both are blocks, and a way of b leads to the cell of p: the pairs by places and offsets, with no list
abbrev pub rests_at : GridView → ℕ → ℕ → Bool
rests_at g b p = (nat_lt b (length g.lows) && nat_lt p (length g.lows)) && leads_at g b p (ways_at g b)

-- the precedence of a grid
abbrev pub gridded : GridView → PrecedenceView
gridded g = record { blocks = length g.lows; rests = rests_at g; ways = ways_at g; way = grid_way g }

-- Each block has a region with deltas; no delta leads out of the padded box, or nowhere; each block is in its cell, and
-- in no other.
pub record IsGrid (g : GridView) : Type 0 where
  pub blocks : length g.lows ≤ MOST_BLOCKS
  pub regions : length g.regions ≡ length g.lows
  pub region : (b : ℕ) → b < length g.lows → region_at g b + 1 < length g.starts
  pub starts : (r : ℕ) → r + 1 < length g.starts → slice_index_or g.starts (r + 1) 0 ≤ length g.deltas
  pub few : length g.cells < 2 ^ 32
  pub inside : (b j : ℕ) → b < length g.lows → j < length g.deltas
      → low_at g b + slice_index_or g.deltas j 0 < length g.cells
  pub away : (j : ℕ) → j < length g.deltas → slice_index_or g.deltas j 0 ≢ g.centre
  pub within : (b : ℕ) → b < length g.lows → home_at g b < length g.cells
  pub home : (b : ℕ) → b < length g.lows → slice_index_or g.cells (home_at g b) 0 ≡ b + 1
  pub known : (c : ℕ) → c < length g.cells → slice_index_or g.cells c 0 ≤ length g.lows
  pub only : (c b : ℕ) → c < length g.cells → slice_index_or g.cells c 0 ≡ b + 1 → home_at g b ≡ c

-- the blocks below m are in their cells, and nothing else is in any
pub record AreCells (lows : List ℕ) (centre count m : ℕ) (cells : List ℕ) : Type 0 where
  pub size : length cells ≡ count
  pub home : (b : ℕ) → b < m → slice_index_or cells (slice_index_or lows b 0 + centre) 0 ≡ b + 1
  pub known : (c : ℕ) → c < count → slice_index_or cells c 0 ≤ m
  pub only : (c b : ℕ) → c < count → slice_index_or cells c 0 ≡ b + 1 → slice_index_or lows b 0 + centre ≡ c

-- b is the first block in the cell of an earlier one, a
pub record IsFirstSame (lows : List ℕ) (a b : ℕ) : Type 0 where
  pub earlier : a < b
  pub known : b < length lows
  pub same : slice_index_or lows a 0 ≡ slice_index_or lows b 0
  pub first : (i j : ℕ) → i < j → j < b → slice_index_or lows i 0 ≢ slice_index_or lows j 0

-- the fault stands
abbrev pub GridFaultStands : List ℕ → GridFault → Type 0
GridFaultStands lows (SamePlace a b) = IsFirstSame lows a b
GridFaultStands lows TooWide = Unit {0}
GridFaultStands lows NoMemory = Unit {0}

-- each block has a region, and that has deltas
pub record RegionsFit (lows regions starts deltas : List ℕ) : Type 0 where
  pub few : length lows ≤ MOST_BLOCKS
  pub each : length regions ≡ length lows
  pub region : All (λ r. r + 1 < length starts) regions
  pub ends : All (λ s. s ≤ length deltas) starts

-- no delta leads from a block to itself
abbrev pub LeadAway : List ℕ → ℕ → Type 0
LeadAway deltas centre = (j : ℕ) → j < length deltas → slice_index_or deltas j 0 ≢ centre

-- each block's cell is below inner, each delta below reach, and the box has their sum
pub record CellsFit (lows deltas : List ℕ) (centre inner reach count : ℕ) : Type 0 where
  pub inside : All (λ c. c < inner) lows
  pub reached : All (λ d. d < reach) deltas
  pub own : centre < reach
  pub box : inner + reach ≤ count
