-- For this crate alone: records of a text that are read by themselves, wherever they stand.
use Rattle.std.specs.Prelude.{◌≡◌, ℕ, ℤ, pos, ◌+◌, ◌<◌, ◌≤◌, Bool, true, false, List, [], ◌++◌, length, replicate}
use Rattle.std.specs.Prelude.{slice_index_or, None}
use Rattle.fixed_worth.specs.Prelude.{Line, numbered_lines}
use Rattle.upit_file.specs.Body.{before_end, first_upit_fault, has_value_record, value_among}

-- None of the lines is a record of a block from this one on.
abbrev pub NoneFrom : ℕ → List Line → Type 0
NoneFrom from ls = (b : ℕ) → from ≤ b → has_value_record ls b ≡ false

-- The lines with these texts, none of which ends the text, are read into the values of blocks from a given one on. They
-- have records of these blocks alone, and every other block is worth nothing by them. After any lines without records
-- of these blocks and later ones none of them is faulty.
pub record AreValuesOf (n from : ℕ) (texts : List (List ℕ)) (values : List ℤ) : Type 0 where
  pub known : from + length values ≤ n
  pub above : (k b : ℕ) → b < from → has_value_record (numbered_lines k texts) b ≡ false
  pub below : (k : ℕ) → NoneFrom (from + length values) (numbered_lines k texts)
  pub worth : (k b : ℕ) → value_among (numbered_lines k texts) b ≡ slice_index_or (replicate from (pos 0) ++ values) b
      (pos 0)
  pub unended : (k : ℕ) (ls : List Line) → before_end (numbered_lines k texts ++ ls) ≡ numbered_lines k texts
      ++ before_end ls
  pub sound : (k : ℕ) (before : List Line) → NoneFrom from before → first_upit_fault n before (numbered_lines k texts)
      ≡ None

-- The lines with these texts are read into such values: all of them where the text doesn't end among them, and
-- otherwise
-- those before its end, whatever stands after it.
pub record IsPartRead (n from : ℕ) (texts : List (List ℕ)) (values : List ℤ) (ended : Bool) : Type 0 where
  pub front : List (List ℕ)
  pub held : AreValuesOf n from front values
  pub all : ended ≡ false → texts ≡ front
  pub end : ended ≡ true → (k : ℕ) (ls : List Line) → before_end (numbered_lines k texts ++ ls) ≡ numbered_lines k front
