-- Marks that show a list of blocks.
use Rattle.std.proofs.Common.{◌≡◌, ℕ, ◌<◌, Bool, false, List, length, get_or, take}
use Rattle.closure_net.specs.Network.{holds_of}

-- each of n marks shows whether the first k blocks hold its block
pub record ShowsFirst (marks : List Bool) (n : ℕ) (blocks : List ℕ) (k : ℕ) : Type 0 where
  pub size : length marks ≡ n
  pub same : (b : ℕ) → b < n → get_or marks b false ≡ holds_of (take k blocks) b
