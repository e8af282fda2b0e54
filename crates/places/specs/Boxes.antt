-- A padded box: the cell of a place in it, and how far an offset leads there.
use Rattle.std.specs.Prelude.{◌≡◌, ℕ, ◌+◌, ◌*◌, ◌<◌, ◌≤◌, pos, ◌+ℤ◌, ◌-ℤ◌, List, length, slice_index_or}
use Rattle.blocks_file.specs.declared.place.Place.{Place}
use Rattle.blocks_file.specs.Denotes.{BlocksView}
use Rattle.slope_offsets.specs.Prelude.{Offset}
use Rattle.slope.specs.Prelude.{block_place, upward}
use Rattle.slope_offsets.specs.declared.up.Up.{Up}
use Rattle.places.specs.declared.padded_box.PaddedBox.{PaddedBox}

-- the cell of a spot in a box whose rows have sx cells, and whose levels have sy rows
abbrev pub cell_of : ℕ → ℕ → ℕ → ℕ → ℕ → ℕ
cell_of sx sy x y z = (z * sy + y) * sx + x

-- A place is in the box, in this cell: its row and its level go on after it by twice the padding, so that no offset
-- leads into the next.
pub record IsIn (s : PaddedBox) (up : Up) (place : Place) (cell : ℕ) : Type 0 where
  pub x : ℕ
  pub y : ℕ
  pub z : ℕ
  pub along : place.x ≡ s.lx +ℤ pos x
  pub across : place.y ≡ s.ly +ℤ pos y
  pub upward : upward up place.z ≡ s.lz +ℤ pos z
  pub wide : x + (s.px + s.px) < s.sx
  pub deep : y + (s.py + s.py) < s.sy
  pub cell_is : cell ≡ cell_of s.sx s.sy x y z

-- the offset, raised by the padding of the box, is this cell
pub record IsRaised (s : PaddedBox) (o : Offset) (delta : ℕ) : Type 0 where
  pub a : ℕ
  pub b : ℕ
  pub c : ℕ
  pub along : o.0 ≡ pos a -ℤ pos s.px
  pub across : o.1 ≡ pos b -ℤ pos s.py
  pub upward : o.2 ≡ pos c -ℤ pos s.pz
  pub low : a ≤ s.px + s.px
  pub near : b ≤ s.py + s.py
  pub cell : delta ≡ cell_of s.sx s.sy a b c

-- the offset that leads nowhere
abbrev pub nothing : Offset
nothing = (pos 0, pos 0, pos 0)

-- the first n blocks are in these cells
pub record AreLows (s : PaddedBox) (up : Up) (m : BlocksView) (n : ℕ) (lows : List ℕ) : Type 0 where
  pub size : length lows ≡ n
  pub laid : (b : ℕ) → b < n → IsIn s up (block_place m b) (slice_index_or lows b 0)

-- the first n offsets are these cells
pub record AreRaised (s : PaddedBox) (offsets : List Offset) (n : ℕ) (deltas : List ℕ) : Type 0 where
  pub size : length deltas ≡ n
  pub raised : (k : ℕ) → k < n → IsRaised s (slice_index_or offsets k nothing) (slice_index_or deltas k 0)
