-- Lists of what has a property.
use Rattle.std.specs.Prelude.{◌≢◌, ℕ, ◌<◌, List, length, All, AllPairs}

-- More than so many have the property: here are some of them, none twice.
pub record AreMoreThan {X : Type 0} (most : ℕ) (P : X → Type 0) : Type 0 where
  pub some : List X
  pub apart : AllPairs (λ x y. x ≢ y) some
  pub all : All P some
  pub more : most < length some
