-- What a read adds to the bytes that a stream holds.
use Rattle.std.specs.Prelude.{◌≡◌, ℕ, List, ◌++◌, length, Option}
use Rattle.std.specs.Io.KnownBytes.{Consumes}

-- n bytes that the reader gave stand after what was held
pub record AppendsRead (remaining left : Option (List ℕ)) (before later : List ℕ) (n : ℕ) : Type 0 where
  pub bytes : List ℕ
  pub given : Consumes remaining left bytes
  pub count : length bytes ≡ n
  pub after : later ≡ before ++ bytes
