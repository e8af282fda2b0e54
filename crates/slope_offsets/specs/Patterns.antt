-- What each pattern holds, and the faults of a pattern.
use Rattle.std.specs.Prelude.{ℕ, ◌≤◌, ◌<◌, ◌*◌, ◌+◌, ℤ, pos, negsuc, ◌≤ℤ◌, List, [], ◌∷◌, length, All, unsigned_abs}
use Rattle.std.specs.Prelude.{slice_index_or}
use Rattle.slope_offsets.specs.declared.pattern.TheConstants.{MOST_OFFSETS}
use Rattle.prec_file.specs.Rests.{IsFirstNot}
use Rattle.slope_offsets.specs.Lists.{AreMoreThan}
use Rattle.slope_offsets.specs.Offsets.{Offset, IsUpward}
use Rattle.slope_offsets.specs.declared.pattern_fault.PatternFault.{PatternFault}
use Rattle.slope_offsets.specs.declared.pattern_fault.PatternFault.TheVariants.{NotUpward, TooMany, NoMemory}

-- The block above and the four that share a side with it: a cross.
abbrev pub five_offsets : List Offset
five_offsets = (pos 0, pos 0, pos 1) ∷ (pos 1, pos 0, pos 1) ∷ (negsuc 0, pos 0, pos 1) ∷ (pos 0, pos 1, pos 1)
    ∷ (pos 0, negsuc 0, pos 1) ∷ []

-- The square of nine blocks above.
abbrev pub nine_offsets : List Offset
nine_offsets =
    (negsuc 0, negsuc 0, pos 1) ∷ (negsuc 0, pos 0, pos 1) ∷ (negsuc 0, pos 1, pos 1)
    ∷ (pos 0, negsuc 0, pos 1) ∷ (pos 0, pos 0, pos 1) ∷ (pos 0, pos 1, pos 1)
    ∷ (pos 1, negsuc 0, pos 1) ∷ (pos 1, pos 0, pos 1) ∷ (pos 1, pos 1, pos 1) ∷ []

-- The square of a whole number.
abbrev pub square : ℤ → ℕ
square z = unsigned_abs z * unsigned_abs z

-- At level k the distance along the first two axes is at most k * run / rise.
abbrev pub IsNear : ℕ → ℕ → Offset → Type 0
IsNear run rise o = rise * rise * (square o.0 + square o.1) ≤ square o.2 * (run * run)

-- The offset is on one of the levels from 1 on, and near enough there.
pub record IsInCone (levels run rise : ℕ) (o : Offset) : Type 0 where
  pub above : pos 1 ≤ℤ o.2
  pub within : o.2 ≤ℤ pos levels
  pub near : IsNear run rise o

-- Offset i of a list leads up.
abbrev pub UpwardAt : List Offset → ℕ → Type 0
UpwardAt listed i = IsUpward (slice_index_or listed i (pos 0, pos 0, pos 0))

-- The fault of listed offsets stands, and none that comes before it.
abbrev pub ListFaultStands : List Offset → PatternFault → Type 0
ListFaultStands listed (NotUpward i) = IsFirstNot (UpwardAt listed) (length listed) i
ListFaultStands listed TooMany = All IsUpward listed × (MOST_OFFSETS < length listed)
ListFaultStands listed NoMemory = Unit {0}

-- The fault of a cone stands.
abbrev pub ConeFaultStands : ℕ → ℕ → ℕ → PatternFault → Type 0
ConeFaultStands levels run rise (NotUpward i) = ⊥
ConeFaultStands levels run rise TooMany = AreMoreThan MOST_OFFSETS (IsInCone levels run rise)
ConeFaultStands levels run rise NoMemory = Unit {0}
