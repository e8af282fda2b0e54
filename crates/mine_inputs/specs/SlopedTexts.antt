-- What settings say of slopes by region: which block rests on which; and the mine that settings and blocks denote with
-- no precedence beside them.
use Rattle.std.specs.Prelude.{◌≡◌, ℕ, Bool, List, [], ◌∷◌, map, Option, Some, None, unwrap_or}
use Rattle.std.specs.List.{range_with_len}
use Rattle.blocks_file.specs.Denotes.{BlocksView}
use Rattle.blocks_file.specs.Records as blocks
use Rattle.settings_file.specs.Settings.{SettingsView, settings_of, is_said, names_mill}
use Rattle.settings_file.specs.declared.keys.Key.{Key}
use Rattle.settings_file.specs.declared.keys.Key.TheVariants.{Slopes, Ways}
use Rattle.settings_file.specs.declared.up_sign.UpSign.{UpSign}
use Rattle.settings_file.specs.declared.up_sign.UpSign.TheVariants.{Plus, Minus}
use Rattle.slope.specs.Prelude.{AreRightSlopes, RegionFaultStands, rests_by_slopes}
use Rattle.slope_offsets.specs.Prelude.{Offset}
use Rattle.slope_offsets.specs.declared.selection.Selection.TheVariants.{Every}
use Rattle.slope_offsets.specs.declared.up.Up.{Up}
use Rattle.slope_offsets.specs.declared.up.Up.TheVariants.{PlusZ, MinusZ}
use Rattle.slope.specs.declared.region_fault.RegionFault.TheVariants as region
use Rattle.engine_faults.specs.declared.engine_fault.SlopeProblem.{SlopeProblem}
use Rattle.engine_faults.specs.declared.engine_fault.SlopeProblem.TheVariants as of
use Rattle.mine_inputs.specs.Limits.{IsWithinLimit}
use Rattle.mine_inputs.specs.PricedTexts.{KeysSaid, Wanted, cells, columns_beside, columns_said, keys_by}

-- a column as a list of columns: of one, or of none where no column is named
abbrev pub columns_for : Option ℕ → List ℕ
columns_for None = []
columns_for (Some column) = column ∷ []

-- the columns of blocks that say in which region each is: one where settings name it, and none otherwise
abbrev pub region_columns : SettingsView → List ℕ
region_columns s = columns_for s.region

-- the offsets of each region that settings list
abbrev pub slopes_said : SettingsView → List (List Offset)
slopes_said s = unwrap_or s.slopes []

-- which way is up by what is said of it: towards greater z, where it is plus or nothing is said
abbrev pub up_by : Option UpSign → Up
up_by (Some Minus) = MinusZ
up_by (Some Plus) = PlusZ
up_by None = PlusZ

-- which way is up by settings: towards greater z, unless they say minus
abbrev pub up_said : SettingsView → Up
up_said s = up_by s.up

-- Whether block b rests on block p by settings and blocks: p stands from b at an offset that the settings list for b's
-- own region.
abbrev pub rests_said : SettingsView → BlocksView → ℕ → ℕ → Bool
rests_said s m = rests_by_slopes (slopes_said s) m (up_said s)

-- nothing is wrong with the slopes that settings list, in the blocks; how many pairs they give is not asked
abbrev pub SlopesRead : SettingsView → BlocksView → Type 0
SlopesRead s m = AreRightSlopes (slopes_said s) m

-- this fault of the slopes that settings list stands; want of memory isn't a fault of slopes
abbrev pub SlopesFail : SettingsView → BlocksView → SlopeProblem → Type 0
SlopesFail s m (of.Regions region.NoMemory) = ⊥
SlopesFail s m (of.Regions fault) = RegionFaultStands (slopes_said s) m (up_said s) Every fault
SlopesFail s m _ = ⊥

-- the blocks of a text, with these columns
abbrev pub model_in : List ℕ → List ℕ → BlocksView
model_in chosen text = record {
  blocks = blocks.record_count_of text;
  places = map (λ b. blocks.place_of_record (blocks.record_among (blocks.lines_in text) b))
      (range_with_len 0 (blocks.record_count_of text));
  columns = map (cells text) chosen;
}

-- the blocks of a text, with the column of regions that settings name
abbrev pub placed_in : SettingsView → List ℕ → BlocksView
placed_in s text = model_in (region_columns s) text

-- the keys that settings need which have both prices and slopes
abbrev pub sloped_keys : SettingsView → List Key
sloped_keys s = keys_by (is_said s Ways) (names_mill s) (Slopes ∷ [])

-- the columns that are chosen of the blocks: those of prices, and last that of regions
abbrev pub sloped_columns : SettingsView → List ℕ
sloped_columns s = columns_beside (columns_said s) (region_columns s)

-- what is wanted of settings and blocks where slopes stand in the place of a precedence: every key is used
abbrev pub prices_and_slopes : Wanted
prices_and_slopes = record { needed = sloped_keys; unused = []; chosen = sloped_columns }

-- the key that settings need of which slopes alone are used: those of prices are neither needed nor looked at
abbrev pub placing_keys : SettingsView → List Key
placing_keys s = Slopes ∷ []

-- what is wanted of settings and blocks where they say who rests on whom, and not what blocks are worth
abbrev pub slopes_alone : Wanted
slopes_alone = record { needed = placing_keys; unused = []; chosen = region_columns }

-- The settings list slopes, and the text of blocks has the column of regions that they name, of n blocks.
pub record PlacesRead (settings text : List ℕ) (n : ℕ) : Type 0 where
  pub keys : KeysSaid placing_keys [] settings
  pub within : IsWithinLimit text
  pub read : blocks.blocks_fault_of (region_columns (settings_of settings)) text ≡ None
  pub count : blocks.record_count_of text ≡ n

-- the place of the column of regions after so many others, where settings name it
abbrev pub column_after : ℕ → Option ℕ → Option ℕ
column_after others None = None
column_after others (Some region) = Some others
