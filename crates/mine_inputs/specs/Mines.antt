-- The mine that texts denote.
use Rattle.std.specs.Prelude.{◌≡◌, ℕ, ℤ, pos, ◌*ℤ◌, ◌==◌, ◌&&◌, Bool, true, false, not, List, None, Ok}
use Rattle.closure_net.specs.Mine.{Mine}
use Rattle.prec_file.specs.Records as prec
use Rattle.prec_file.specs.Rests.{has_pair}
use Rattle.upit_file.specs.Records as upit
use Rattle.certificate_file.specs.declared.header.Price.{Price}
use Rattle.certificate_file.specs.declared.header.Price.TheVariants.{Objective}
use Rattle.shells.specs.Prices.{price_of, worth_at}
use Rattle.mine_inputs.specs.Limits.{IsWithinLimit}
use Rattle.settings_file.specs.Settings.{settings_of}
use Rattle.mine_inputs.specs.PricedTexts.{table_of, PricesRead, PricesReadBy}
use Rattle.mine_inputs.specs.SlopedTexts.{rests_said, PlacesRead, SlopesRead, placed_in, prices_and_slopes}

-- The texts that denote a mine: the values of its blocks and their precedence; or settings, blocks with columns of
-- prices, the precedence, and the factor in thousandths at which the blocks' revenues count; or the same with no
-- precedence, where settings list slopes, by which the blocks' places say which block rests on which; or settings that
-- list slopes, blocks with their places alone, and their values.
pub data MineTexts : Type 0 where
  mine_texts : (values precedence : List ℕ) → MineTexts
  priced_texts : (settings blocks precedence : List ℕ) (factor : ℕ) → MineTexts
  sloped_texts : (settings blocks : List ℕ) (factor : ℕ) → MineTexts
  valued_texts : (settings blocks values : List ℕ) → MineTexts

-- What says which block rests on which where the blocks have prices: a text of its own, or the slopes that settings
-- list.
pub data PrecedenceBy : Type 0 where
  by_text : (precedence : List ℕ) → PrecedenceBy
  by_slopes : PrecedenceBy

-- whether it is the slopes
abbrev pub is_sloped : PrecedenceBy → Bool
is_sloped (by_text precedence) = false
is_sloped by_slopes = true

-- the texts of a mine of prices at a factor, whose precedence is said so
abbrev pub texts_by : List ℕ → List ℕ → PrecedenceBy → ℕ → MineTexts
texts_by settings blocks (by_text precedence) factor = priced_texts settings blocks precedence factor
texts_by settings blocks by_slopes factor = sloped_texts settings blocks factor

-- the price that a certificate for these texts names: by the kind of their table
abbrev pub price_wanted : MineTexts → Price
price_wanted (mine_texts values precedence) = Objective
price_wanted (priced_texts settings blocks precedence factor) = price_of (table_of settings blocks) factor
price_wanted (sloped_texts settings blocks factor) = price_of (table_of settings blocks) factor
price_wanted (valued_texts settings blocks values) = Objective

-- what block b is worth, in billionths: by its value in millionths, or by the prices at the factor
abbrev pub worth_by_texts : MineTexts → ℕ → ℤ
worth_by_texts (mine_texts values precedence) b = pos 1000 *ℤ upit.upit_value_at values b
worth_by_texts (priced_texts settings blocks precedence factor) b = worth_at (table_of settings blocks) factor b
worth_by_texts (sloped_texts settings blocks factor) b = worth_at (table_of settings blocks) factor b
worth_by_texts (valued_texts settings blocks values) b = pos 1000 *ℤ upit.upit_value_at values b

-- b rests on p where the pair is listed and they are two blocks
abbrev pub rests_by : List (ℕ × ℕ) → ℕ → ℕ → Bool
rests_by listed b p = not (b == p) && has_pair listed b p

-- who rests on whom by the texts: as the precedence lists it, or as the slopes have it that settings list
abbrev pub rests_of : MineTexts → ℕ → ℕ → Bool
rests_of (mine_texts values precedence) = rests_by (prec.pairs_of_text precedence)
rests_of (priced_texts settings blocks precedence factor) = rests_by (prec.pairs_of_text precedence)
rests_of (sloped_texts settings blocks factor) = rests_said (settings_of settings)
    (placed_in (settings_of settings) blocks)
rests_of (valued_texts settings blocks values) = rests_said (settings_of settings)
    (placed_in (settings_of settings) blocks)

-- The mine of n blocks that texts denote.
abbrev pub mine_of : ℕ → MineTexts → Mine
mine_of n texts = record { blocks = n; rests = rests_of texts; worth = worth_by_texts texts }

-- The text of values isn't too long, declares n blocks and has no fault.
pub record ValuesRead (text : List ℕ) (n : ℕ) : Type 0 where
  pub within : IsWithinLimit text
  pub declared : upit.declared_of text ≡ Ok n
  pub read : upit.upit_fault_of n text ≡ None

-- The text of values isn't too long, and has no fault where n blocks are wanted: another number is one.
pub record ValuesReadFor (text : List ℕ) (n : ℕ) : Type 0 where
  pub within : IsWithinLimit text
  pub read : upit.upit_fault_of n text ≡ None

-- the texts that say what the blocks are worth are read, and say it of n blocks
abbrev pub WorthsRead : MineTexts → ℕ → Type 0
WorthsRead (mine_texts values precedence) n = ValuesRead values n
WorthsRead (priced_texts settings blocks precedence factor) n = PricesRead settings blocks n
WorthsRead (sloped_texts settings blocks factor) n = PricesReadBy prices_and_slopes settings blocks n
WorthsRead (valued_texts settings blocks values) n = PlacesRead settings blocks n × ValuesReadFor values n

-- the precedence of n blocks isn't too long and has no fault
pub record PrecedenceRead (text : List ℕ) (n : ℕ) : Type 0 where
  pub within : IsWithinLimit text
  pub read : prec.fault_of n text ≡ None

-- the texts that say who rests on whom among n blocks are read: of slopes, no fault stands
abbrev pub RestsRead : MineTexts → ℕ → Type 0
RestsRead (mine_texts values precedence) n = PrecedenceRead precedence n
RestsRead (priced_texts settings blocks precedence factor) n = PrecedenceRead precedence n
RestsRead (sloped_texts settings blocks factor) n = SlopesRead (settings_of settings)
    (placed_in (settings_of settings) blocks)
RestsRead (valued_texts settings blocks values) n = SlopesRead (settings_of settings)
    (placed_in (settings_of settings) blocks)

-- The texts denote a mine of n blocks: what blocks are worth is read, and who rests on whom.
pub record DenoteMine (texts : MineTexts) (n : ℕ) : Type 0 where
  pub worths_read : WorthsRead texts n
  pub rests_read : RestsRead texts n
