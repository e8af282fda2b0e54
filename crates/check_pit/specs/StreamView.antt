-- What contracts see of a stream of lines.
use Rattle.std.specs.Prelude.{ℕ, List}

-- a device, the bytes that it gave and no line has taken, how many it gave, and the number of the line last passed
pub record LineView (R : Type 0) : Type 0 where
  pub from : R
  pub held : List ℕ
  pub taken : ℕ
  pub number : ℕ
