-- Parts of a mine between two pits, within which the best pits of some factors are looked for.
use Rattle.std.specs.Prelude.{take, ◌≡◌, ℕ, ℤ, ◌<◌, ◌≤◌, ◌⊎◌, Bool, List, length, slice_index, All, Contains, IsTrue}
use Rattle.std.specs.Prelude.{IfSome, FitsSigned}
use Rattle.std.specs.Int.{w128}
use Rattle.fixed_worth.specs.declared.limits.TheConstants.{MOST_BLOCKS}
use Rattle.ordered_group.specs.Prelude.{Amount, worth_in}
use Rattle.prec_file.specs.Rests.{IsRests, has_pair}
use Rattle.closure_net.specs.Prelude.{NetView, holds_of, IsAscending, Mine, IsBest, IsNetOf}
use Rattle.shells.specs.Prelude.{PricesView, priced_count, worth_at, NoRevenueNegative, mine_at}
use Rattle.places.specs.Ways.{PrecedenceView}
use Rattle.sub_mines.specs.Prelude.{union_of, difference_of, every_block, IsFloor, IsCeiling, number_in, IsKept}
use Rattle.sub_mines.specs.Prelude.{IsPartPairs}
use Rattle.series_pits.specs.declared.mine_parts.Part.{Part}
use Rattle.series_pits.specs.declared.mine_parts.Halved.{Halved}
use Rattle.series_pits.specs.declared.mine_halves.Level.{Level}
use Rattle.series_pits.specs.PitsAtFactors.{IsProved}

-- pairs and prices of the same blocks, at most `MOST_BLOCKS`, no revenue negative, and factors that rise
pub record ArePriced (pairs : List (ℕ × ℕ)) (prices : PricesView) (factors : List ℕ) : Type 0 where
  pub rests : IsRests (record { blocks = priced_count prices; pairs = pairs })
  pub known : NoRevenueNegative prices
  pub few : priced_count prices ≤ MOST_BLOCKS
  pub rising : IsAscending factors

-- The best pit at each of the factors from one place to another has the blocks of one list, and beside them none but
-- those of another: the one is a floor of it, and both together are a ceiling. Both lists ascend, and each block of
-- them has a price.
pub record LiesBetweenLists (pairs : List (ℕ × ℕ)) (prices : PricesView) (factors : List ℕ) (from to : ℕ)
    (low kept : List ℕ) : Type 0 where
  pub high : ℕ → Bool
  pub inside : to ≤ length factors
  pub floor : (i : ℕ) → from ≤ i → i < to → IsFloor (mine_at pairs prices (slice_index factors i)) (holds_of low)
  pub ceiling : (i : ℕ) → from ≤ i → i < to → IsCeiling (mine_at pairs prices (slice_index factors i)) high
  pub low_ascends : IsAscending low
  pub low_priced : All (λ b. b < priced_count prices) low
  pub are_kept : IsKept (difference_of high (holds_of low)) (priced_count prices) kept

-- the best pit at each factor of a part has the part's low blocks, and beside them none except its kept ones
abbrev pub IsPart : List (ℕ × ℕ) → PricesView → List ℕ → Part → Type 0
IsPart pairs prices factors part = LiesBetweenLists pairs prices factors part.from part.to part.low.items
    part.kept.items

-- the mine of the blocks of a list, by their places in it
abbrev pub mine_among : List (ℕ × ℕ) → PricesView → List ℕ → ℕ → Mine
mine_among less prices kept k = record {
  blocks = length kept;
  rests = has_pair less;
  worth = λ i. worth_at prices k
      (number_in kept i);
}

-- the net is that of these blocks alone, with the pairs among them
pub record IsNetAmong (block : ℤ → ℕ → Amount) (pairs : List (ℕ × ℕ)) (prices : PricesView) (kept : List ℕ) (k : ℕ)
    (net : NetView) : Type 0 where
  pub less : List (ℕ × ℕ)
  pub part : IsPartPairs kept pairs less
  pub of : IsNetOf block (mine_among less prices kept k) net

-- The net is that of these blocks alone with some of the pairs among them: by each of its pairs one rests on another.
pub record IsFewNet (block : ℤ → ℕ → Amount) (v : PrecedenceView) (prices : PricesView) (kept : List ℕ) (k : ℕ)
    (net : NetView) : Type 0 where
  pub few : List (ℕ × ℕ)
  pub held : (b p : ℕ) → Contains few (b, p) → IsTrue (v.rests b p)
  pub of : IsNetOf block (mine_among few prices kept k) net

-- the places are the best pit of the mine of these blocks alone
pub record IsBestAmong (pairs : List (ℕ × ℕ)) (prices : PricesView) (kept : List ℕ) (k : ℕ) (places : List ℕ) : Type 0
  where
    pub less : List (ℕ × ℕ)
    pub part : IsPartPairs kept pairs less
    pub best : IsBest (mine_among less prices kept k) (holds_of places)

-- the worths of the first so many blocks of a list have no sum within 128 bits
pub record PartSumLeaves (prices : PricesView) (k : ℕ) (blocks : List ℕ) : Type 0 where
  pub count : ℕ
  pub within : count ≤ length blocks
  pub leaves : ¬ (FitsSigned w128 (worth_in (λ i. worth_at prices k (number_in blocks i)) every_block count))

-- why the worths of these blocks aren't summed: one has no price, or a sum leaves 128 bits
abbrev pub NoSumStands : PricesView → ℕ → List ℕ → Type 0
NoSumStands prices k blocks = ¬ (All (λ b. b < priced_count prices) blocks) ⊎ PartSumLeaves prices k blocks

-- why these blocks are no pit with what it has: they don't ascend, or their worths aren't summed
abbrev pub NoPitStands : PricesView → ℕ → List ℕ → Type 0
NoPitStands prices k blocks = ¬ (IsAscending blocks) ⊎ NoSumStands prices k blocks

-- what a part gave: the best pit that was found is one, and the parts that are left are parts
pub record AreHalved (pairs : List (ℕ × ℕ)) (prices : PricesView) (factors : List ℕ) (halves : Halved) : Type 0 where
  pub found : IfSome halves.best (IsProved pairs prices)
  pub lower : IsPart pairs prices factors halves.lower
  pub higher : IsPart pairs prices factors halves.higher

-- a part of which some factor is left
pub record IsLeft (pairs : List (ℕ × ℕ)) (prices : PricesView) (factors : List ℕ) (part : Part) : Type 0 where
  pub lies : IsPart pairs prices factors part
  pub some : part.from < part.to

-- what was found are best pits, and what is left are parts with some factor
pub record IsSearchLevel (pairs : List (ℕ × ℕ)) (prices : PricesView) (factors : List ℕ) (level : Level) : Type 0 where
  pub found : All (IsProved pairs prices) level.found.items
  pub left : All (IsLeft pairs prices factors) level.parts.items

-- a list holds the blocks of a set and the first so many of another list
pub record AreJoined (e : ℕ → Bool) (blocks : List ℕ) (next : ℕ) (found : List ℕ) : Type 0 where
  pub most : next ≤ length blocks
  pub held : (b : ℕ) → holds_of found b ≡ union_of e (holds_of (take next blocks)) b
