-- The texts of a mine that is reported: settings that name its prices, its tonnes and the factors, blocks, and what
-- says which block rests on which.
use Rattle.std.specs.Prelude.{◌≡◌, ℕ, Bool, List, [], ◌∷◌, ◌++◌, None, unwrap_or}
use Rattle.std.specs.List.{find}
use Rattle.blocks_file.specs.Records as blocks
use Rattle.settings_file.specs.declared.keys.Key.{Key}
use Rattle.settings_file.specs.declared.keys.Key.TheVariants.{Tonnes, Factors, Ways}
use Rattle.settings_file.specs.Settings.{SettingsView, settings_of, is_said, names_mill}
use Rattle.shells.specs.Prices.{PricesFaultStands, worth_at}
use Rattle.bench_report.specs.Benches.{ReportedBlocks}
use Rattle.engine_faults.specs.declared.engine_fault.EngineFault.{EngineFault}
use Rattle.engine_faults.specs.declared.engine_fault.EngineFault.TheVariants as engine
use Rattle.mine_inputs.specs.Prelude.{IsWithinLimit, BlocksFails, PrecedenceBy, is_sloped, texts_by, keys_by, others_by}
use Rattle.mine_inputs.specs.Prelude.{unused_by, price_columns, region_columns, cell, table_of, KeysSaid, SettingsFails}
use Rattle.mine_inputs.specs.Prelude.{MineFails}
use Rattle.shell_engines.specs.SeriesTexts.{factors_said, report_factor}

-- the keys that a report needs, where settings list slopes and where they don't
abbrev pub report_keys : Bool → SettingsView → List Key
report_keys sloped s = keys_by (is_said s Ways) (names_mill s) (others_by sloped (Tonnes ∷ Factors ∷ []))

-- the text of settings has no fault, and says something at each of these keys
abbrev pub ReportKeysKnown : Bool → List ℕ → Type 0
ReportKeysKnown sloped settings = KeysSaid (report_keys sloped) (unused_by sloped) settings

-- the columns of the blocks that settings name: those of prices, then tonnes, and last that of regions where there is
-- one
abbrev pub report_columns : SettingsView → List ℕ
report_columns s = price_columns s ++ (unwrap_or s.tonnes 0 ∷ region_columns s)

-- The settings name these columns, and the text of blocks has no fault where they are chosen.
pub record ReportBlocksRead (sloped : Bool) (settings text : List ℕ) : Type 0 where
  pub keys : ReportKeysKnown sloped settings
  pub within : IsWithinLimit text
  pub read : blocks.blocks_fault_of (report_columns (settings_of settings)) text ≡ None

-- What is reported of n blocks, where these are the pits at the factors: the height of a block and its tonnes as its
-- record says; as its shell the first factor whose pit holds it; and its worth at the factor of the report.
abbrev pub report_blocks : ℕ → List ℕ → List ℕ → (ℕ → ℕ → Bool) → ReportedBlocks
report_blocks n settings text pit = record {
  blocks = n;
  height = λ b. (blocks.place_of_record (blocks.record_among (blocks.lines_in text) b)).z;
  shell = λ b. find (λ k. pit k b) (factors_said settings);
  tonnes = λ b. cell text (unwrap_or (settings_of settings).tonnes 0) b;
  worth = λ b. worth_at (table_of settings text) (report_factor settings) b;
}

-- why the texts aren't read: each fault stands, and none before it does
abbrev pub ReportMineFails : List ℕ → List ℕ → PrecedenceBy → EngineFault → Type 0
ReportMineFails settings text precedence (engine.Settings p) = SettingsFails (report_keys (is_sloped precedence))
    (unused_by (is_sloped precedence)) settings p
ReportMineFails settings text precedence (engine.Blocks p) = ReportKeysKnown (is_sloped precedence) settings
    × BlocksFails (report_columns (settings_of settings)) text p
ReportMineFails settings text precedence (engine.Prices fault) = ReportBlocksRead (is_sloped precedence) settings text
    × PricesFaultStands (table_of settings text) fault
ReportMineFails settings text precedence engine.Memory = Unit {0}
ReportMineFails settings text precedence engine.Device = Unit {0}
ReportMineFails settings text precedence fault = ReportBlocksRead (is_sloped precedence) settings text
    × ((factor : ℕ) → MineFails (texts_by settings text precedence factor) fault)
