-- What arcs carry, as it is kept.
use Rattle.std.specs.Prelude.{◌≡◌, ◌≢◌, ℕ, zero, suc, ◌<◌, ◌≤◌, ◌^◌, [], ◌∷◌, Option, None, Some, List, map, length}
use Rattle.std.specs.Prelude.{All, slice_index_or}
use Rattle.ordered_group.specs.Prelude.{Amount, zero_amount, amount_at}

-- the amount of a place, where places begin with 1 and 0 is that of nothing
abbrev pub amount_of_place : List Amount → ℕ → Amount
amount_of_place xs p = amount_at (zero_amount ∷ xs) p

-- what each arc carries: the amount of its place, or where there are no places its own
abbrev pub carried_by : {Kept : Type 0} → (Kept → List ℕ) → Option Kept → List Amount → List Amount
carried_by items (Some places) xs = map (amount_of_place xs) (items places)
carried_by items None xs = xs

-- how many arcs have a place
abbrev pub placed_count : List ℕ → ℕ
placed_count [] = 0
placed_count (zero ∷ ps) = placed_count ps
placed_count (suc p ∷ ps) = suc (placed_count ps)

-- The places of so many amounts: each is that of an amount and of one arc only, and there is an amount for each place.
-- There are so few arcs that each place is a number of 32 bits.
pub record ArePlaces (places : List ℕ) (amounts : ℕ) : Type 0 where
  pub few : length places < 2 ^ 32
  pub inside : All (λ p. p ≤ amounts) places
  pub count : amounts ≡ placed_count places
  pub apart : (i j : ℕ) → i < length places → j < length places
      → slice_index_or places i 0 ≡ slice_index_or places j 0 → slice_index_or places i 0 ≢ 0 → i ≡ j
