-- The laws of amounts, and of the amounts that stand for sets of blocks.
use Rattle.std.specs.Prelude.{◌≡◌, ◌↔◌, ℕ, ◌<◌, ℤ, Bool, ◌⊎◌}
use Rattle.ordered_group.specs.Amount.{Amount, zero_amount, plus, minus, AtMost, Below}
use Rattle.ordered_group.specs.Sets.{group_sum, worth_in, count_in, IsBefore}

-- Amounts are a commutative group, and a total order that is kept when one amount is added to both sides.
pub record IsOrderedGroup : Type 0 where
  pub commutative : (x y : Amount) → plus x y ≡ plus y x
  pub associative : (x y z : Amount) → plus (plus x y) z ≡ plus x (plus y z)
  pub zero_adds_nothing : (x : Amount) → plus x zero_amount ≡ x
  pub opposite : (x : Amount) → plus x (minus zero_amount x) ≡ zero_amount
  pub difference : (x y : Amount) → minus x y ≡ plus x (minus zero_amount y)
  pub antisymmetric : (x y : Amount) → AtMost x y → AtMost y x → x ≡ y
  pub transitive : (x y z : Amount) → AtMost x y → AtMost y z → AtMost x z
  pub comparable : (x y : Amount) → AtMost x y ⊎ AtMost y x
  pub kept : (x y z : Amount) → AtMost x y → AtMost (plus x z) (plus y z)

-- The worth that is told of the sum of a set's blocks is the sum of their worths.
abbrev pub SumsTellWorth : (ℤ → ℕ → Amount) → (Amount → ℕ → ℕ → ℤ) → Type 0
SumsTellWorth block worth = (v : ℕ → ℤ) (e : ℕ → Bool) (n : ℕ) → worth (group_sum block v e n) n (count_in e n)
    ≡ worth_in v e n

-- The worth that is told of the amount of one block is the block's.
abbrev pub BlocksTellWorth : (ℤ → ℕ → Amount) → (Amount → ℕ → ℕ → ℤ) → Type 0
BlocksTellWorth block worth = (v : ℤ) (n : ℕ) → 0 < n → worth (block v n) n 1 ≡ v

-- One set's sum is below another's exactly where the set is before the other.
abbrev pub SumsOrderSets : (ℤ → ℕ → Amount) → Type 0
SumsOrderSets block = (v : ℕ → ℤ) (e c : ℕ → Bool) (n : ℕ)
    → Below (group_sum block v e n) (group_sum block v c n) ↔ IsBefore v n e c
