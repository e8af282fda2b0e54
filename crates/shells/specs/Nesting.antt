-- Best pits over one table of prices, at two factors.
use Rattle.std.specs.Prelude.{ℕ, ◌≤◌, ℤ, Bool, List}
use Rattle.ordered_group.specs.Amount.{Amount}
use Rattle.closure_net.specs.Prelude.{IsBest, LiesWithin, holds_of}
use Rattle.check_pit.specs.Accepted.{AcceptedView, IsAccepted}
use Rattle.shells.specs.Prices.{PricesView, NoRevenueNegative}
use Rattle.shells.specs.Series.{mine_of_prices, mine_at, IsOver}

-- Where no revenue is negative, the best pit at a factor lies within the best pit at a higher one, whatever rests on
-- what.
abbrev pub BestPitsAreNested : Type 0
BestPitsAreNested = (above : ℕ → ℕ → Bool) (table : PricesView) (j k : ℕ) (e c : ℕ → Bool) → NoRevenueNegative table → j ≤ k
    → IsBest (mine_of_prices above table j) e → IsBest (mine_of_prices above table k) c → LiesWithin (mine_of_prices above table j) e c

-- Where no revenue is negative, a pit that was accepted at a factor lies within one that was accepted at a higher
-- factor, over the same pairs and prices, each as amounts of one of these kinds.
abbrev pub AcceptedPitsAreNested : (ℤ → ℕ → Amount) → (ℤ → ℕ → Amount) → Type 0
AcceptedPitsAreNested lower higher = (pairs : List (ℕ × ℕ)) (table : PricesView) (j k : ℕ) (a c : AcceptedView)
    → NoRevenueNegative table → j ≤ k
    → IsAccepted a → IsOver lower pairs table j a.net → IsAccepted c → IsOver higher pairs table k c.net
    → LiesWithin (mine_at pairs table j) (holds_of a.pit) (holds_of c.pit)
