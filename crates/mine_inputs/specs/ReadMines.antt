-- What is known of a mine that was read.
use Rattle.std.specs.Prelude.{◌≡◌, ◌↔◌, ℕ, ℤ, Bool, IsTrue, Contains, List}
use Rattle.prec_file.specs.Rests.{RestsView, IsRising}
use Rattle.shells.specs.Prices.{PricesView, priced_count}
pub use Rattle.engine_faults.specs.EngineFaults.{of_model}
use Rattle.mine_inputs.specs.PricedTexts.{table_of}
use Rattle.mine_inputs.specs.Mines.{MineTexts, PrecedenceBy, texts_by, rests_of, price_wanted, WorthsRead, DenoteMine}
use Rattle.mine_inputs.specs.FaultStands.{AreWorths}
use Rattle.mine_inputs.specs.declared.worths.Worths.{Worths}
use Rattle.mine_inputs.specs.Worths.{blocks_valued, nanos_at, price_at}
use Rattle.mine_inputs.specs.Ways.{AreWaysOf}

-- the pairs are those that a test has, each once and in order
pub record ArePairsBy (rests : ℕ → ℕ → Bool) (pairs : List (ℕ × ℕ)) : Type 0 where
  pub rising : IsRising pairs
  pub same : (b p : ℕ) → Contains pairs (b, p) ↔ IsTrue (rests b p)

-- The worths, in billionths, and the pairs that were read are those of the texts.
pub record AreRead (texts : MineTexts) (nanos : List ℤ) (rests : RestsView) : Type 0 where
  pub mine : DenoteMine texts rests.blocks
  pub worths : AreWorths texts rests.blocks nanos
  pub pairs : ArePairsBy (rests_of texts) rests.pairs

-- What blocks are worth is read of the texts, which are of a mine at this factor.
pub record AreWorthsOf (texts : MineTexts) (factor : ℕ) (worths : Worths) : Type 0 where
  pub read : WorthsRead texts (blocks_valued worths)
  pub are : AreWorths texts (blocks_valued worths) (nanos_at worths factor)
  pub price : price_at worths factor ≡ price_wanted texts
  pub ways : AreWaysOf texts factor (blocks_valued worths) worths

-- the mine that was read is that of the texts at this factor
abbrev pub IsMineRead : MineTexts → ℕ → Worths → RestsView → Type 0
IsMineRead texts factor worths rests = AreRead texts (nanos_at worths factor) rests
    × (price_at worths factor ≡ price_wanted texts) × AreWaysOf texts factor rests.blocks worths

-- The prices and the pairs that were read are those of the texts, at whatever factor.
pub record ArePricesRead (settings blocks : List ℕ) (precedence : PrecedenceBy) (prices : PricesView)
    (rests : RestsView) : Type 0 where
  pub mine : (factor : ℕ) → DenoteMine (texts_by settings blocks precedence factor) rests.blocks
  pub table : prices ≡ table_of settings blocks
  pub size : priced_count prices ≡ rests.blocks
  pub pairs : (factor : ℕ) → ArePairsBy (rests_of (texts_by settings blocks precedence factor)) rests.pairs
