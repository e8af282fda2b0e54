-- Worths rise with the factor, and the best pits with them.
use Rattle.fixed_worth.proofs.Common.{ℕ, Bool, ◌≤◌, ◌≤ℤ◌, ◌*ℤ◌, ℤ, pos, negsuc, List, [], ◌∷◌, map, All, All-head}
use Rattle.fixed_worth.proofs.Common.{All-tail, arith, ints, clamps, common_steps}
use Rattle.closure_net.specs.Mine.{RisesTo}
use Rattle.closure_net.proofs.BestPits.{best_is_within}
use Rattle.shells.specs.Prelude.{WayView, PricesView, plain_prices, treated_prices, number_at, left_at, worths_by}
use Rattle.shells.specs.Prelude.{best_of, worth_at, revenues_at, NoRevenueNegative, mine_of_prices, BestPitsAreNested}

rises_by : (j k : ℕ) (r : ℤ) → j ≤ k → pos 0 ≤ℤ r → (pos j *ℤ r) ≤ℤ (pos k *ℤ r)
rises_by j k (pos n) le p = grind (arith, common_steps)
rises_by j k (negsuc n) le p = absurd (omega (arith, ints, p))

left_rises : (revenue charge : List ℤ) (j k b : ℕ) → j ≤ k → pos 0 ≤ℤ number_at revenue b
    → left_at revenue charge j b ≤ℤ left_at revenue charge k b
left_rises revenue charge j k b le p = let r = rises_by j k (number_at revenue b) le p in omega (arith, ints, r)

-- the greatest of amounts that don't fall doesn't fall
best_rises : (ways : List WayView) (j k b : ℕ) → j ≤ k
    → All (λ r. pos 0 ≤ℤ r) (map (λ way. number_at way.revenue b) ways)
    → best_of (worths_by ways j b) ≤ℤ best_of (worths_by ways k b)
best_rises [] j k b le p = omega (arith, ints)
best_rises (way ∷ ways) j k b le p =
    let revenues = map (λ (way : WayView). number_at way.revenue b) ways in
    let first = left_rises way.revenue way.processing j k b le
    (All-head (λ r. pos 0 ≤ℤ r) (number_at way.revenue b) revenues p) in
    let others = best_rises ways j k b le (All-tail (λ r. pos 0 ≤ℤ r) (number_at way.revenue b) revenues p) in
    omega (arith, ints, clamps, first, others)

-- what a block is worth doesn't fall where no revenue of it is negative
worth_rises : (table : PricesView) (j k b : ℕ) → j ≤ k → All (λ r. pos 0 ≤ℤ r) (revenues_at table b)
    → worth_at table j b ≤ℤ worth_at table k b
worth_rises (plain_prices revenue cost) j k b le p = left_rises revenue cost j k b le
    (All-head (λ r. pos 0 ≤ℤ r) (number_at revenue b) [] p)
worth_rises (treated_prices ways mining) j k b le p = let best = best_rises ways j k b le p in omega (arith, ints, best)

pub mines_rise : (above : ℕ → ℕ → Bool) (table : PricesView) (j k : ℕ) → NoRevenueNegative table → j ≤ k
    → RisesTo (mine_of_prices above table j) (mine_of_prices above table k)
mines_rise above table j k known le = grind (arith, common_steps, worth_rises)

pub best_is_nested : BestPitsAreNested
best_is_nested above table j k e c known le low high =
    best_is_within (mine_of_prices above table j) (mine_of_prices above table k) e c
    (mines_rise above table j k known le) low high
