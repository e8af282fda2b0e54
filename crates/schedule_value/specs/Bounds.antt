-- How large a sum of values may be.
use Rattle.std.specs.Prelude.{ℕ, ◌*◌, ℤ, pos, neg_ℤ, ◌≤ℤ◌}

-- the sum of so many values, each of at most 10^23 billionths at a weight of at most 10^6 millionths
pub record IsWithin (count : ℕ) (sum : ℤ) : Type 0 where
  pub most : sum ≤ℤ pos (count * 100000000000000000000000000000)
  pub least : neg_ℤ (pos (count * 100000000000000000000000000000)) ≤ℤ sum
