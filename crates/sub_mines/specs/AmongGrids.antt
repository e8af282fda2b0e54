-- Who precedes whom among some blocks of a grid, which are numbered by their places in a list.
use Rattle.std.specs.Prelude.{ℕ, ◌<◌, ◌≤◌, ◌&&◌, nat_lt, Bool, All, Option, Some, None, List, length, slice_index_or}
use Rattle.places.specs.Prelude.{GridView, PrecedenceView, IsPrecedence, gridded, rests_at, ways_at, grid_way, block_in}
use Rattle.closure_net.specs.Network.{IsAscending}
use Rattle.sub_mines.specs.Renumbered.{number_in}
use Rattle.sub_mines.specs.Among.{ArePlacesAmong}

-- A grid, those of its blocks that are kept, and of each of its blocks the place among these and 1 more, or 0.
pub record AmongView : Type 0 where
  pub grid : GridView
  pub kept : List ℕ
  pub places : List ℕ

-- the place of a block, if it is kept
abbrev pub place_of : List ℕ → Option ℕ → Option ℕ
place_of places None = None
place_of places (Some p) = block_in (slice_index_or places p 0)

-- whether both are places, and the block at one rests on the block at the other
abbrev pub rests_among : AmongView → ℕ → ℕ → Bool
rests_among a i j = (nat_lt i (length a.kept) && nat_lt j (length a.kept)) && rests_at a.grid (number_in a.kept i)
    (number_in a.kept j)

-- the precedence of these blocks alone
abbrev pub among : AmongView → PrecedenceView
among a = record {
  blocks = length a.kept;
  rests = rests_among a;
  ways = λ i. ways_at a.grid (number_in a.kept i);
  way = λ i k. place_of a.places (grid_way a.grid (number_in a.kept i) k);
}

-- The kept blocks are some of the grid's, ascending, and each has its place.
pub record AreAmong (a : AmongView) : Type 0 where
  pub precedes : IsPrecedence (gridded a.grid)
  pub ascending : IsAscending a.kept
  pub below : All (λ b. b < length a.grid.lows) a.kept
  pub size : length a.kept ≤ length a.grid.lows
  pub places : ArePlacesAmong (length a.grid.lows) a.kept (length a.kept) a.places
