-- What counted devices are to their callers, when a call fails, and what a writer has received.
use Rattle.std.specs.Prelude.{◌≡◌, ◌⊎◌, ℕ, ◌+◌, ◌-◌, ◌^◌, ◌<◌, ◌≤◌, min, List, [], ◌∷◌, ◌++◌, length, take, Option}
use Rattle.std.specs.Prelude.{Result, Ok, Err, Bool, true, false, cond, ◌==◌}
use Rattle.std.specs.Io.KnownBytes.{Appends, Consumes}

-- a counted device: the reader or writer that it holds, and how many of its calls failed
pub record CountedDevice (T : Type 0) : Type 0 where
  pub inner : T
  pub failures : ℕ

-- a device of tests: the one inside, how many calls were made, and the number of the call that fails
pub record FailingDevice (T : Type 0) : Type 0 where
  pub inner : T
  pub calls : ℕ
  pub fails_at : ℕ

-- a write fails by an error, and by taking no byte of a piece that has some
abbrev pub write_fails : {E : Type 0} → Result ℕ E → List ℕ → Bool
write_fails (Err e) piece = true
write_fails (Ok n) [] = false
write_fails (Ok n) (b ∷ bs) = n == 0

-- the count after a call: one more where it failed, up to the largest number that 64 bits hold
abbrev pub count_after : Bool → ℕ → ℕ
count_after fails count = cond fails (min (count + 1) (2 ^ 64 - 1)) count

-- the reader gave a text of more than `limit` bytes
abbrev pub GaveMoreThan : ℕ → Option (List ℕ) → Option (List ℕ) → Type 0
GaveMoreThan limit old new = (text : List ℕ) × (limit < length text) × Consumes old new text

-- the reader gave a text of at most `limit` bytes
abbrev pub GaveAtMost : ℕ → Option (List ℕ) → Option (List ℕ) → Type 0
GaveAtMost limit old new = (text : List ℕ) × (length text ≤ limit) × Consumes old new text

-- the writer received the first k bytes of the text, for some k
abbrev pub ReceivedPrefix : Option (List ℕ) → Option (List ℕ) → List ℕ → Type 0
ReceivedPrefix old new text = (k : ℕ) × (k ≤ length text) × Appends old new (take k text)

-- the writer received the front of the text, and the rest is still held
pub record SentOrHeld (old new : Option (List ℕ)) (held text : List ℕ) : Type 0 where
  pub sent : List ℕ
  pub received : Appends old new sent
  pub whole : sent ++ held ≡ text

-- a put failed. Either the page still holds what it held, and the writer received a prefix of that; or the writer
-- received all of that and a prefix of the piece, and the page holds nothing
abbrev pub PutFailed : Option (List ℕ) → Option (List ℕ) → List ℕ → List ℕ → List ℕ → Type 0
PutFailed old new held left piece =
    ((left ≡ held) × ReceivedPrefix old new held)
    ⊎ ((left ≡ []) × ((k : ℕ) × (k ≤ length piece) × Appends old new (held ++ take k piece)))
