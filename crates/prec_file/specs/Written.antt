-- What a precedence file is, for given pairs of blocks.
use Rattle.std.specs.Prelude.{◌≡◌, ℕ, zero, suc, ◌+◌, ◌<◌, ◌≤◌, List, [], ◌∷◌, ◌++◌, length, Option, None}
use Rattle.std.specs.List.{flat_map}
use Rattle.std.specs.Fmt.{decimal}
use Rattle.std.specs.Io.KnownBytes.{Keeps}
use Rattle.counted_devices.specs.Device.{ReceivedPrefix}
use Rattle.prec_file.specs.Rests.{RestsView, IsFirstNot, above_of, ArePairsOf}
use Rattle.prec_file.specs.declared.write_fault.PrecWriteFault.{PrecWriteFault}
use Rattle.prec_file.specs.declared.write_fault.PrecWriteFault.TheVariants.{TooWide, Device}
use Rattle.prec_file.specs.Records.{fault_of, pairs_of_text}

-- Numbers in decimal, a space (32) before each.
abbrev pub spaced_numbers : List ℕ → List ℕ
spaced_numbers numbers = flat_map (λ number. 32 ∷ decimal number) numbers

-- The line of a block: the block, how many predecessors it has, these ascending, and a line feed (10).
abbrev pub prec_line : List (ℕ × ℕ) → ℕ → List ℕ
prec_line ps b = (decimal b ++ (32 ∷ decimal (length (above_of ps b)))) ++ (spaced_numbers (above_of ps b) ++ (10 ∷ []))

-- The lines of the blocks below n, ascending.
abbrev pub lines_below : List (ℕ × ℕ) → ℕ → List ℕ
lines_below ps zero = []
lines_below ps (suc n) = lines_below ps n ++ prec_line ps n

-- The file: a line for each block.
abbrev pub prec_text : RestsView → List ℕ
prec_text v = lines_below v.pairs v.blocks

-- The block rests on at most 7,000 blocks.
abbrev pub IsNarrowAt : RestsView → ℕ → Type 0
IsNarrowAt v b = length (above_of v.pairs b) ≤ 7000

-- So does each block.
abbrev pub AreNarrow : RestsView → Type 0
AreNarrow v = (b : ℕ) → b < v.blocks → IsNarrowAt v b

-- The fault stands, given what the writer had received before and after, and how many of its writes had failed:
-- a block is too wide, the first one, and nothing was written; or a write failed, and a prefix of the file was written.
abbrev pub WriteFaultStands : RestsView → Option (List ℕ) → Option (List ℕ) → ℕ → ℕ → PrecWriteFault → Type 0
WriteFaultStands v old new failed after (TooWide b) = IsFirstNot (IsNarrowAt v) v.blocks b × Keeps old new
    × (after ≡ failed)
WriteFaultStands v old new failed after Device = AreNarrow v × ReceivedPrefix old new (prec_text v)
    × (after ≡ failed + 1)

-- The text has no fault for the value's blocks, and its pairs are the value's and no others.
pub record ReadsBack (v : RestsView) (text : List ℕ) : Type 0 where
  pub sound : fault_of v.blocks text ≡ None
  pub same : ArePairsOf (pairs_of_text text) v.pairs
  pub alone : (ps : List (ℕ × ℕ)) → ArePairsOf (pairs_of_text text) ps → ps ≡ v.pairs
