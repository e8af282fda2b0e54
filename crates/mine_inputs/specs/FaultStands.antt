-- When the texts of a mine aren't read: the fault stands in them, and none before it does.
use Rattle.std.specs.Prelude.{◌≡◌, ℕ, ◌<◌, ℤ, pos, List, [], length, slice_index_or, Some}
use Rattle.upit_file.specs.Records as upit
use Rattle.upit_file.specs.declared.upit_fault.UpitFault.{UpitFault}
use Rattle.prec_file.specs.Records as prec
use Rattle.prec_file.specs.declared.prec_fault.PrecFault.{PrecFault}
use Rattle.blocks_file.specs.declared.blocks_fault.BlocksFault.{BlocksFault}
use Rattle.settings_file.specs.declared.settings_fault.SettingsFault.{SettingsFault}
use Rattle.shells.specs.declared.prices_fault.PricesFault.{PricesFault}
use Rattle.engine_faults.specs.declared.engine_fault.Problem.{Problem}
use Rattle.engine_faults.specs.declared.engine_fault.Problem.TheVariants as problem
use Rattle.engine_faults.specs.declared.engine_fault.EngineFault.{EngineFault}
use Rattle.engine_faults.specs.declared.engine_fault.EngineFault.TheVariants as engine
use Rattle.mine_inputs.specs.Limits.{IsTooLong, IsWithinLimit}
use Rattle.engine_faults.specs.declared.engine_fault.SlopeProblem.{SlopeProblem}
use Rattle.settings_file.specs.Settings.{settings_of}
use Rattle.mine_inputs.specs.PricedTexts.{price_keys, slope_keys, SettingsFails, PricedBlocksFail, PricedBlocksFailBy}
use Rattle.mine_inputs.specs.PricedTexts.{PricesFail, PricesFailBy}
use Rattle.mine_inputs.specs.SlopedTexts.{PlacesRead, SlopesFail, placed_in, placing_keys, prices_and_slopes}
use Rattle.mine_inputs.specs.SlopedTexts.{sloped_keys, slopes_alone}
use Rattle.mine_inputs.specs.Mines.{MineTexts, mine_texts, priced_texts, sloped_texts, valued_texts, worth_by_texts}
use Rattle.mine_inputs.specs.Mines.{WorthsRead}

-- the values of n blocks aren't read: their text is too long, or has this fault
abbrev pub ValuesFailFor : ℕ → List ℕ → Problem UpitFault → Type 0
ValuesFailFor n text problem.InputTooLong = IsTooLong text
ValuesFailFor n text (problem.Fault fault) = IsWithinLimit text × (upit.upit_fault_of n text ≡ Some fault)

-- the values are no text of values: too long, or a fault where as many blocks are wanted as the text declares
abbrev pub UpitFails : List ℕ → Problem UpitFault → Type 0
UpitFails text p = ValuesFailFor (upit.blocks_declared (upit.lines_in text)) text p

-- the precedence of n blocks isn't read: its text is too long, or has this fault
abbrev pub PrecFails : ℕ → List ℕ → Problem PrecFault → Type 0
PrecFails n text problem.InputTooLong = IsTooLong text
PrecFails n text (problem.Fault fault) = IsWithinLimit text × (prec.fault_of n text ≡ Some fault)

-- the worths of the mine's blocks, in a list
pub record AreWorths (texts : MineTexts) (n : ℕ) (worths : List ℤ) : Type 0 where
  pub size : length worths ≡ n
  pub each : (b : ℕ) → b < n → slice_index_or worths b (pos 0) ≡ worth_by_texts texts b

-- a fault of the values of blocks, where texts of values denote the mine: beside blocks, of as many as these are
abbrev pub ValuesFail : MineTexts → Problem UpitFault → Type 0
ValuesFail (mine_texts values precedence) p = UpitFails values p
ValuesFail (valued_texts settings blocks values) p = (n : ℕ) × PlacesRead settings blocks n × ValuesFailFor n values p
ValuesFail _ p = ⊥

-- a fault of the settings, where settings and blocks denote the mine
abbrev pub SettingsFail : MineTexts → Problem SettingsFault → Type 0
SettingsFail (mine_texts values precedence) p = ⊥
SettingsFail (priced_texts settings blocks precedence factor) p = SettingsFails price_keys slope_keys settings p
SettingsFail (sloped_texts settings blocks factor) p = SettingsFails sloped_keys [] settings p
SettingsFail (valued_texts settings blocks values) p = SettingsFails placing_keys [] settings p

-- a fault of the text of blocks, where settings and blocks denote the mine
abbrev pub BlocksFail : MineTexts → Problem BlocksFault → Type 0
BlocksFail (mine_texts values precedence) p = ⊥
BlocksFail (priced_texts settings blocks precedence factor) p = PricedBlocksFail settings blocks p
BlocksFail (sloped_texts settings blocks factor) p = PricedBlocksFailBy prices_and_slopes settings blocks p
BlocksFail (valued_texts settings blocks values) p = PricedBlocksFailBy slopes_alone settings blocks p

-- a fault of the table of prices, where settings and blocks denote the mine
abbrev pub TableFails : MineTexts → PricesFault → Type 0
TableFails (mine_texts values precedence) fault = ⊥
TableFails (priced_texts settings blocks precedence factor) fault = PricesFail settings blocks fault
TableFails (sloped_texts settings blocks factor) fault = PricesFailBy prices_and_slopes settings blocks fault
TableFails (valued_texts settings blocks values) fault = ⊥

-- a fault of the precedence of n blocks, where it is a text of its own
abbrev pub PrecedenceFails : MineTexts → ℕ → Problem PrecFault → Type 0
PrecedenceFails (mine_texts values precedence) n p = PrecFails n precedence p
PrecedenceFails (priced_texts settings blocks precedence factor) n p = PrecFails n precedence p
PrecedenceFails (sloped_texts settings blocks factor) n p = ⊥
PrecedenceFails (valued_texts settings blocks values) n p = ⊥

-- a fault of the slopes that settings list, where they stand in the place of a precedence
abbrev pub MineSlopesFail : MineTexts → SlopeProblem → Type 0
MineSlopesFail (sloped_texts settings blocks factor) p = SlopesFail (settings_of settings)
    (placed_in (settings_of settings) blocks) p
MineSlopesFail (valued_texts settings blocks values) p = SlopesFail (settings_of settings)
    (placed_in (settings_of settings) blocks) p
MineSlopesFail _ p = ⊥

-- Why the texts of a mine aren't read: the fault stands, and none before it does. Want of memory and a failing device
-- say nothing of them.
abbrev pub MineFails : MineTexts → EngineFault → Type 0
MineFails texts (engine.Upit p) = ValuesFail texts p
MineFails texts (engine.Settings p) = SettingsFail texts p
MineFails texts (engine.Blocks p) = BlocksFail texts p
MineFails texts (engine.Prices fault) = TableFails texts fault
MineFails texts (engine.Prec p) = (n : ℕ) × WorthsRead texts n × PrecedenceFails texts n p
MineFails texts (engine.Slope p) = (n : ℕ) × WorthsRead texts n × MineSlopesFail texts p
MineFails texts engine.Memory = Unit {0}
MineFails texts engine.Device = Unit {0}
MineFails texts _ = ⊥
