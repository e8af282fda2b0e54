-- Who rests on whom by places, and by the offsets of a block's own region.
use Rattle.std.specs.Prelude.{◌≡◌, ◌≢◌, ◌↔◌, ℕ, ◌+◌, ◌<◌, ◌≤◌, IsTrue, List, length, slice_index_or}
use Rattle.blocks_file.specs.Denotes.{BlocksView}
use Rattle.slope_offsets.specs.Prelude.{Offset, listed_at}
use Rattle.slope.specs.Prelude.{IsSlopePair, AreApartBelow, IsFirstRepeat}
use Rattle.slope_offsets.specs.declared.up.Up.{Up}
use Rattle.places.specs.declared.cells.GridFault.{GridFault}
use Rattle.places.specs.declared.cells.GridFault.TheVariants.{SamePlace, TooWide, NoMemory}
use Rattle.places.specs.declared.padded_box.PaddedBox.{PaddedBox}
use Rattle.places.specs.Boxes.{AreLows, IsRaised, cell_of, nothing}
use Rattle.places.specs.Grids.{GridView, rests_at, region_at}

-- No two blocks have one place, and b rests on p exactly where p stands at an offset of b's own region from it.
pub record ArePlaced (m : BlocksView) (up : Up) (slopes : List (List Offset)) (regions : List ℕ) (g : GridView) : Type
    0 where
  pub apart : AreApartBelow m m.blocks
  pub blocks : length g.lows ≡ m.blocks
  pub pairs : (b p : ℕ) → IsTrue (rests_at g b p) ↔ IsSlopePair m (listed_at slopes (slice_index_or regions b 0)) up
      (b, p)

-- The fault stands: the first block that has an earlier one's place. Nothing is said of the others.
abbrev pub PlacesFaultStands : BlocksView → GridFault → Type 0
PlacesFaultStands m (SamePlace b c) = IsFirstRepeat m b c
PlacesFaultStands m TooWide = Unit {0}
PlacesFaultStands m NoMemory = Unit {0}

-- The deltas of the first n regions, one region's after the other's, and where each region's begin.
pub record AreDeltas (s : PaddedBox) (slopes : List (List Offset)) (n : ℕ) (starts deltas : List ℕ) : Type 0 where
  pub size : length starts ≡ n + 1
  pub last : slice_index_or starts n 0 ≡ length deltas
  pub within : (r : ℕ) → r ≤ n → slice_index_or starts r 0 ≤ length deltas
  pub ways : (r : ℕ) → r < n → slice_index_or starts (r + 1) 0 ≡ slice_index_or starts r 0 + length (listed_at slopes r)
  pub raised : (r k : ℕ) → r < n → k < length (listed_at slopes r)
      → IsRaised s (slice_index_or (listed_at slopes r) k nothing)
      (slice_index_or deltas (slice_index_or starts r 0 + k) 0)

-- no two blocks have one cell
abbrev pub LowsApart : List ℕ → Type 0
LowsApart lows = (i j : ℕ) → i < j → j < length lows → slice_index_or lows i 0 ≢ slice_index_or lows j 0

-- The grid is one of these places and offsets, in some box.
pub record IsLaidOut (m : BlocksView) (up : Up) (slopes : List (List Offset)) (g : GridView) : Type 0 where
  pub box : PaddedBox
  pub lows : AreLows box up m m.blocks g.lows
  pub apart : LowsApart g.lows
  pub centre : g.centre ≡ cell_of box.sx box.sy box.px box.py box.pz
  pub deltas : AreDeltas box slopes (length slopes) g.starts g.deltas
  pub regions : (b : ℕ) → b < m.blocks → region_at g b < length slopes
