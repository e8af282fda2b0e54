-- Amounts that are listed one after the other.
use Rattle.fixed_worth.proofs.Common.{◌≡◌, ℕ, ◌+◌, ◌<◌, List, [], ◌∷◌, ◌++◌, map, length, arith, common_steps}
use Rattle.ordered_group.specs.Prelude.{Amount, amount_at}
use Rattle.ordered_group.specs.declared.scaled.Scaled.{Scaled}
use Rattle.word_runner.specs.CutNets.{scaled_parts}

pub pushed_each : (f : ℕ → Amount) (xs ys : List Scaled) (x : Scaled) (n : ℕ) → ys ≡ xs ++ x ∷ [] → length xs ≡ n
    → ((j : ℕ) → j < n → amount_at (map scaled_parts xs) j ≡ f j) → scaled_parts x ≡ f n → (j : ℕ) → j < n + 1
    → amount_at (map scaled_parts ys) j ≡ f j
pushed_each f xs ys x n is size old new j l = grind (arith, common_steps)
