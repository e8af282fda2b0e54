-- Offsets from a block to those that it rests on.
use Rattle.std.specs.Prelude.{◌≡◌, ◌≤◌, ℤ, pos, ◌≤ℤ◌, ◌<ℤ◌, ◌⊎◌, List, length, All, AllPairs, Contains, ℕ, ◌<◌, []}
use Rattle.std.specs.Prelude.{slice_index_or, Bool}
use Rattle.slope_offsets.specs.declared.pattern.TheConstants.{MOST_OFFSETS}

-- Differences along the three axes, where up is positive along the third.
abbrev pub Offset : Type 0
Offset = ℤ × ℤ × ℤ

-- The offset leads up.
abbrev pub IsUpward : Offset → Type 0
IsUpward o = pos 1 ≤ℤ o.2

-- Offsets go by their first number, then by the second, and then by the third.
abbrev pub OffsetBefore : Offset → Offset → Type 0
OffsetBefore x y = (x.0 <ℤ y.0) ⊎ ((x.0 ≡ y.0) × ((x.1 <ℤ y.1) ⊎ ((x.1 ≡ y.1) × (x.2 <ℤ y.2))))

-- Each offset is before all later ones.
pub record AreOffsetsRising (offsets : List Offset) : Type 0 where
  pub rises : AllPairs OffsetBefore offsets

-- The offsets that have a property, each once and in order.
pub record AreOffsets (P : Offset → Type 0) (offsets : List Offset) : Type 0 where
  pub rising : AreOffsetsRising offsets
  pub held : (o : Offset) → P o → Contains offsets o
  pub only : (o : Offset) → Contains offsets o → P o

-- What every pattern is: few offsets, in order and each once, all of which lead up.
pub record IsPattern (offsets : List Offset) : Type 0 where
  pub rising : AreOffsetsRising offsets
  pub upward : All IsUpward offsets
  pub few : length offsets ≤ MOST_OFFSETS

-- The offsets of region r of a list.
abbrev pub listed_at : List (List Offset) → ℕ → List Offset
listed_at listed r = slice_index_or listed r []
