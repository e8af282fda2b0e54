-- Closed sets of a net, and what they sum to.
use Rattle.std.specs.Prelude.{ℕ, Bool, List, length, All, IsTrue}
use Rattle.ordered_group.specs.Prelude.{Amount, AtMost, total, where_so, amount_at}
use Rattle.closure_net.specs.Network.{NetView}

-- of a pair (b, p): p stays in the set if b is in it
abbrev pub Stays : (ℕ → Bool) → ℕ × ℕ → Type 0
Stays pit pair = IsTrue (pit pair.0) → IsTrue (pit pair.1)

-- each block that a block of the set rests on is in the set
abbrev pub IsClosed : List (ℕ × ℕ) → (ℕ → Bool) → Type 0
IsClosed ps pit = All (Stays pit) ps

-- the sum of the worths of a set
abbrev pub group_worth : List Amount → (ℕ → Bool) → Amount
group_worth ws pit = total (λ b. where_so (pit b) (amount_at ws b)) (length ws)

-- the set is closed, and no closed set sums to more
pub record IsGreatest (net : NetView) (pit : ℕ → Bool) : Type 0 where
  pub closed : IsClosed net.pairs pit
  pub most : (other : ℕ → Bool) → IsClosed net.pairs other
      → AtMost (group_worth net.worths other) (group_worth net.worths pit)
