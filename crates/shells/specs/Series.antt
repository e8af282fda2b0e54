-- Nested shells over one table of prices.
use Rattle.std.specs.Prelude.{◌≡◌, ◌≢◌, ℕ, ℤ, ◌<◌, ◌≤◌, ◌++◌, ◌∷◌, [], nat_le, Bool, false, cond, IsTrue, Option, Some}
use Rattle.std.specs.Prelude.{None, MatchOption, List, length, replicate, slice_index_or}
use Rattle.std.specs.List.{Contains}
use Rattle.fixed_worth.specs.declared.limits.TheConstants.{MOST_FACTORS}
use Rattle.prec_file.specs.Rests.{RestsView, IsRests, has_pair}
use Rattle.ordered_group.specs.Prelude.{Amount, amount_at}
use Rattle.closure_net.specs.Prelude.{IsAscending, NetView, Mine, IsBest}
use Rattle.shells.specs.declared.series_fault.SeriesFault.{SeriesFault}
use Rattle.shells.specs.declared.series_fault.SeriesFault.TheVariants.{NotHigher, WrongModel, Full, NoMemory}
use Rattle.shells.specs.Prices.{PricesView, priced_count, worth_at, IsTable}

-- the mine of these prices at so many thousandths of the revenues, whose blocks rest on each other in this way
abbrev pub mine_of_prices : (ℕ → ℕ → Bool) → PricesView → ℕ → Mine
mine_of_prices above table k = record { blocks = priced_count table; rests = above; worth = worth_at table k }

-- the mine of these pairs and prices
abbrev pub mine_at : List (ℕ × ℕ) → PricesView → ℕ → Mine
mine_at pairs table k = mine_of_prices (has_pair pairs) table k

-- pairs and prices, the factors pushed so far, and the shell of each block, if it has one
pub record SeriesView : Type 0 where
  pub pairs : List (ℕ × ℕ)
  pub prices : PricesView
  pub factors : List ℕ
  pub shells : List (Option ℕ)

-- who rests on whom
abbrev pub rests_in : SeriesView → RestsView
rests_in s = record { blocks = priced_count s.prices; pairs = s.pairs }

-- the shell of block b
abbrev pub shell_at : List (Option ℕ) → ℕ → Option ℕ
shell_at shells b = slice_index_or shells b None

-- whether there is a shell, of at most k
abbrev pub is_upto : Option ℕ → ℕ → Bool
is_upto None k = false
is_upto (Some x) k = nat_le x k

-- the blocks with a shell of at most k
abbrev pub upto : List (Option ℕ) → ℕ → ℕ → Bool
upto shells k b = is_upto (shell_at shells b) k

-- What every series is. At each of its factors the blocks with a shell of at most that factor are the best pit.
pub record IsSeries (s : SeriesView) : Type 0 where
  pub rests : IsRests (record { blocks = priced_count s.prices; pairs = s.pairs })
  pub prices : IsTable s.prices
  pub shells : length s.shells ≡ priced_count s.prices
  pub rising : IsAscending s.factors
  pub few : length s.factors ≤ MOST_FACTORS
  pub known : (b x : ℕ) → shell_at s.shells b ≡ Some x → Contains s.factors x
  pub best : (k : ℕ) → Contains s.factors k → IsBest (mine_at s.pairs s.prices k) (upto s.shells k)

-- the series before the first push: no block has a shell
abbrev pub opened_series : List (ℕ × ℕ) → PricesView → SeriesView
opened_series pairs table = record
    { pairs = pairs; prices = table; factors = []; shells = replicate (priced_count table) None }

-- why there is no series of n blocks and these prices; want of memory is told only where the lengths agree
abbrev pub OpenFaultStands : ℕ → PricesView → SeriesFault → Type 0
OpenFaultStands n table WrongModel = n ≢ priced_count table
OpenFaultStands n table NoMemory = n ≡ priced_count table
OpenFaultStands n table _ = ⊥

-- k is above every factor
abbrev pub IsAboveAll : List ℕ → ℕ → Type 0
IsAboveAll factors k = (j : ℕ) → Contains factors j → j < k

-- a block of the pit gets the factor as its shell where it had none
abbrev pub with_shell : Option ℕ → Bool → ℕ → Option ℕ
with_shell (Some x) held k = Some x
with_shell None held k = cond held (Some k) None

-- the factor comes last, each block of the pit that had no shell has it as its shell, and nothing else changes
pub record IsPushed (s t : SeriesView) (k : ℕ) (e : ℕ → Bool) : Type 0 where
  pub pairs : t.pairs ≡ s.pairs
  pub prices : t.prices ≡ s.prices
  pub factors : t.factors ≡ s.factors ++ k ∷ []
  pub size : length t.shells ≡ length s.shells
  pub shells : (b : ℕ) → b < length s.shells → shell_at t.shells b ≡ with_shell (shell_at s.shells b) (e b) k

-- A shell is the first factor whose best pit holds the block; a block without one is in no best pit.
abbrev pub IsShell : SeriesView → ℕ → Option ℕ → Type 0
IsShell s b o = MatchOption o
    ((k : ℕ) (e : ℕ → Bool) → Contains s.factors k → IsBest (mine_at s.pairs s.prices k) e → e b ≡ false)
    (λ x. Contains s.factors x
    × ((e : ℕ → Bool) → IsBest (mine_at s.pairs s.prices x) e → IsTrue (e b))
    × ((k : ℕ) (e : ℕ → Bool) → Contains s.factors k → k < x → IsBest (mine_at s.pairs s.prices k) e → e b ≡ false))

-- each block of the net is worth what the table says, as an amount
abbrev pub HasWorths : (ℤ → ℕ → Amount) → PricesView → ℕ → NetView → Type 0
HasWorths block table k net = (b : ℕ) → b < length net.worths
    → amount_at net.worths b ≡ block (worth_at table k b) (length net.worths)

-- the net has these pairs, and the amounts of the table's worths at k
pub record IsOver (block : ℤ → ℕ → Amount) (ps : List (ℕ × ℕ)) (table : PricesView) (k : ℕ) (net : NetView) : Type 0
  where
    pub blocks : length net.worths ≡ priced_count table
    pub pairs : net.pairs ≡ ps
    pub worths : HasWorths block table k net

-- why a push is refused
abbrev pub PushFaultStands : (ℤ → ℕ → Amount) → SeriesView → ℕ → NetView → SeriesFault → Type 0
PushFaultStands block s k net NotHigher = ¬ (IsAboveAll s.factors k)
PushFaultStands block s k net WrongModel = IsAboveAll s.factors k × ¬ (IsOver block s.pairs s.prices k net)
PushFaultStands block s k net Full = IsAboveAll s.factors k × IsOver block s.pairs s.prices k net
    × (length s.factors ≡ MOST_FACTORS)
PushFaultStands block s k net NoMemory = ⊥

-- what a series in memory is: there is room for 64 factors, and its pairs are of so many blocks
pub record IsHeldSeries (s : SeriesView) (room blocks : ℕ) : Type 0 where
  pub series : IsSeries s
  pub reserved : MOST_FACTORS ≤ room
  pub sized : blocks ≡ priced_count s.prices
