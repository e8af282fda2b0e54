-- What the lines of a text, the fields of a line and plain numbers are.
use Rattle.std.specs.Prelude.{◌≡◌, ℕ, ℤ, ◌+◌, ◌<◌, ◌≤◌, ◌==◌, ◌⊎◌, true, false, cond, List, [], ◌∷◌, ◌++◌, length, take, drop, slice_index, EachIndex, All, Ok}
use Rattle.std.specs.Fmt.{signed_decimal}
use Rattle.fixed_worth.specs.Numeral.{plain_of}
use Rattle.fixed_worth.specs.Text.{is_separator, WordRun}

-- the text with a line feed (10) after its last line
abbrev pub with_last_line_feed : List ℕ → List ℕ
with_last_line_feed [] = []
with_last_line_feed (b ∷ []) = cond (b == 10) (b ∷ []) (b ∷ 10 ∷ [])
with_last_line_feed (b ∷ c ∷ bs) = b ∷ with_last_line_feed (c ∷ bs)

-- the lines in a row, a line feed after each
abbrev pub with_line_feeds : List (List ℕ) → List ℕ
with_line_feeds [] = []
with_line_feeds (line ∷ lines) = line ++ (10 ∷ with_line_feeds lines)

-- the lines give the text back, and none holds a line feed
pub record AreLines (text : List ℕ) (lines : List (List ℕ)) : Type 0 where
  pub together : with_line_feeds lines ≡ with_last_line_feed text
  pub whole : All (λ line. EachIndex line (λ k. (slice_index line k == 10) ≡ false)) lines

-- a field is the slice of its line at its place, has a byte, and none that is a separator;
-- on each side of it is a separator or an end of the line
pub record IsField (line : List ℕ) (field : WordRun) : Type 0 where
  pub some : 0 < length field.text
  pub inside : field.place + length field.text ≤ length line
  pub slice : field.text ≡ take (length field.text) (drop field.place line)
  pub bytes : EachIndex field.text (λ k. is_separator (slice_index field.text k) ≡ false)
  pub before : (k : ℕ) → k + 1 ≡ field.place → is_separator (slice_index line k) ≡ true
  pub past : field.place + length field.text < length line → is_separator (slice_index line (field.place + length field.text)) ≡ true

-- each begins where the one before ends, or later
abbrev pub AreInOrder : ℕ → List WordRun → Type 0
AreInOrder p [] = Unit {0}
AreInOrder p (field ∷ fields) = (p ≤ field.place) × AreInOrder (field.place + length field.text) fields

-- the place lies in one of the fields
abbrev pub LiesIn : ℕ → List WordRun → Type 0
LiesIn k [] = ⊥
LiesIn k (field ∷ fields) = ((field.place ≤ k) × (k < field.place + length field.text)) ⊎ LiesIn k fields

-- all fields of the line, in its order: each byte that is no separator lies in one
pub record AreFields (line : List ℕ) (fields : List WordRun) : Type 0 where
  pub each : All (IsField line) fields
  pub ordered : AreInOrder 0 fields
  pub complete : (k : ℕ) → k < length line → is_separator (slice_index line k) ≡ false → LiesIn k fields

-- a text that is read as a plain number is what that number prints
abbrev pub HasOneSpelling : List ℕ → Type 0
HasOneSpelling text = (z : ℤ) → plain_of text ≡ Ok z → text ≡ signed_decimal z
