-- The precedence that offsets give of the blocks of a text, and how the engines of `slopes` end.
use Rattle.std.specs.Prelude.{ℕ, ◌⊎◌, List, [], ◌∷◌, cond, Option, Some, None, unwrap_or, Result, Ok, Err, Contains}
use Rattle.std.specs.Io.KnownBytes.{Appends, Keeps}
use Rattle.counted_devices.specs.Device.{ReceivedPrefix}
use Rattle.blocks_file.specs.Denotes.{BlocksView}
use Rattle.prec_file.specs.Prelude.{RestsView, prec_text}
use Rattle.settings_file.specs.declared.keys.Key.{Key}
use Rattle.settings_file.specs.declared.keys.Key.TheVariants.{Offsets, Slopes, Region}
use Rattle.settings_file.specs.Settings.{SettingsView, settings_of, is_said}
use Rattle.slope_offsets.specs.declared.pattern.TheConstants.{MOST_OFFSETS}
use Rattle.slope_offsets.specs.Prelude.{AreMoreThan, Offset, AreOffsets, five_offsets, nine_offsets, IsInCone}
use Rattle.slope_offsets.specs.Prelude.{ListFaultStands}
use Rattle.slope.specs.Prelude.{AreOwnSlopes, AreSlopes, RegionFaultStands, SlopeFaultStands, own_offsets}
use Rattle.slope_offsets.specs.declared.up.Up.{Up}
use Rattle.slope_offsets.specs.declared.selection.Selection.{Selection}
use Rattle.slope_offsets.specs.declared.pattern_fault.PatternFault.{PatternFault}
use Rattle.slope_offsets.specs.declared.pattern_fault.PatternFault.TheVariants as pattern
use Rattle.slope.specs.declared.slope_fault.SlopeFault.{SlopeFault}
use Rattle.slope.specs.declared.slope_fault.SlopeFault.TheVariants as slope
use Rattle.slope.specs.declared.region_fault.RegionFault.{RegionFault}
use Rattle.slope.specs.declared.region_fault.RegionFault.TheVariants as regions
use Rattle.check_engines.specs.declared.judgement.Verdict.{Verdict}
use Rattle.check_engines.specs.declared.judgement.Verdict.TheVariants.{Done, No}
use Rattle.option_words.specs.declared.pattern_choice.PatternChoice.{PatternChoice}
use Rattle.option_words.specs.declared.pattern_choice.PatternChoice.TheVariants.{Five, Nine, Cone}
use Rattle.engine_faults.specs.declared.engine_fault.SlopeProblem.{SlopeProblem}
use Rattle.engine_faults.specs.declared.engine_fault.SlopeProblem.TheVariants as of
use Rattle.engine_faults.specs.declared.engine_fault.EngineFault.{EngineFault}
use Rattle.engine_faults.specs.declared.engine_fault.EngineFault.TheVariants as engine
use Rattle.mine_inputs.specs.Prelude.{ReadsBlocks, BlocksFails, KeysSaid, SettingsFails, region_columns, up_said}

-- ---- which offsets are asked for

-- the offsets of the pattern that is asked for, each once and in order
abbrev pub IsChosen : PatternChoice → List Offset → Type 0
IsChosen Five offsets = AreOffsets (Contains five_offsets) offsets
IsChosen Nine offsets = AreOffsets (Contains nine_offsets) offsets
IsChosen (Cone levels run rise) offsets = AreOffsets (IsInCone levels run rise) offsets

-- there is no such pattern: a cone has too many offsets, and nothing else can be wrong
abbrev pub ChoiceFails : PatternChoice → PatternFault → Type 0
ChoiceFails (Cone levels run rise) pattern.TooMany = AreMoreThan MOST_OFFSETS (IsInCone levels run rise)
ChoiceFails _ _ = ⊥

-- there is no pattern of these offsets; want of memory isn't a fault of theirs
abbrev pub ListFails : List Offset → PatternFault → Type 0
ListFails listed pattern.NoMemory = ⊥
ListFails listed fault = ListFaultStands listed fault

-- the keys that settings need to give slopes, where they name none by region: slopes, where they name the column of
-- regions, and otherwise offsets
abbrev pub offset_keys : SettingsView → List Key
offset_keys s = cond (is_said s Slopes) [] (cond (is_said s Region) (Slopes ∷ []) (Offsets ∷ []))

-- the offsets that settings list
abbrev pub listed_offsets : SettingsView → List Offset
listed_offsets said = unwrap_or said.offsets []

-- which way is up: as an option says, and otherwise as settings do
abbrev pub up_chosen : Option Up → SettingsView → Up
up_chosen (Some up) said = up
up_chosen None said = up_said said

-- What says which offsets a slope has: a pattern that a word names, or the text of settings that list them.
pub data OffsetsSource : Type 0 where
  named : (choice : PatternChoice) → OffsetsSource
  listed : (settings : List ℕ) → OffsetsSource

-- ---- the pairs

-- The pairs are those that the offsets of a pattern give of the blocks of a text.
pub record AreSlopesOfPattern (IsPatternOf : List Offset → Type 0) (text : List ℕ) (up : Up) (selection : Selection)
    (rests : RestsView) : Type 0 where
  pub model : BlocksView
  pub read : ReadsBlocks [] text model
  pub offsets : List Offset
  pub are : IsPatternOf offsets
  pub slopes : AreSlopes model offsets up selection rests

-- The pairs are those that the offsets of each block's own region give of the blocks of a text with these columns.
pub record AreSlopesOfRegions (slopes : List (List Offset)) (columns text : List ℕ) (up : Up) (selection : Selection)
    (rests : RestsView) : Type 0 where
  pub model : BlocksView
  pub read : ReadsBlocks columns text model
  pub slopes_are : AreOwnSlopes model (own_offsets slopes model) up selection rests

-- the pairs are those of the slopes that settings name by region, or of the offsets that they list
abbrev pub AreSlopesSaid : Option (List (List Offset)) → SettingsView → List ℕ → Up → Selection → RestsView → Type 0
AreSlopesSaid None said text up selection rests = AreSlopesOfPattern (AreOffsets (Contains (listed_offsets said)))
    text up selection rests
AreSlopesSaid (Some slopes) said text up selection rests = AreSlopesOfRegions slopes (region_columns said) text up
    selection rests

-- The source is read, and the pairs are those that its offsets give of the blocks of a text.
abbrev pub AreSlopesBy : OffsetsSource → List ℕ → Up → Selection → RestsView → Type 0
AreSlopesBy (named choice) text up selection rests = AreSlopesOfPattern (IsChosen choice) text up selection rests
AreSlopesBy (listed settings) text up selection rests = KeysSaid offset_keys [] settings
    × AreSlopesSaid (settings_of settings).slopes (settings_of settings) text up selection rests

-- ---- the faults

-- the offsets give no pairs; want of memory isn't a fault of theirs
abbrev pub PairsFail : BlocksView → List Offset → Up → Selection → SlopeFault → Type 0
PairsFail m offsets up selection slope.NoMemory = ⊥
PairsFail m offsets up selection fault = SlopeFaultStands m offsets up selection fault

-- the slopes of regions give no pairs; want of memory isn't a fault of theirs
abbrev pub RegionsFail : List (List Offset) → BlocksView → Up → Selection → RegionFault → Type 0
RegionsFail slopes m up selection regions.NoMemory = ⊥
RegionsFail slopes m up selection fault = RegionFaultStands slopes m up selection fault

-- a pattern gives no pairs of a model: there is none, or its offsets give none
abbrev pub PatternSlopeFails : (List Offset → Type 0) → (PatternFault → Type 0) → BlocksView → Up → Selection
    → SlopeProblem → Type 0
PatternSlopeFails IsPatternOf Refused m up selection (of.Pattern fault) = Refused fault
PatternSlopeFails IsPatternOf Refused m up selection (of.Pairs fault) = (offsets : List Offset) × IsPatternOf offsets
    × PairsFail m offsets up selection fault
PatternSlopeFails IsPatternOf Refused m up selection (of.Regions fault) = ⊥

abbrev pub RegionSlopeFails : List (List Offset) → BlocksView → Up → Selection → SlopeProblem → Type 0
RegionSlopeFails slopes m up selection (of.Regions fault) = RegionsFail slopes m up selection fault
RegionSlopeFails slopes m up selection _ = ⊥

-- Why slopes aren't made of the blocks of a text, of which these columns are read.
abbrev pub BlockSlopesFail : List ℕ → (BlocksView → SlopeProblem → Type 0) → List ℕ → EngineFault → Type 0
BlockSlopesFail columns SlopeFails text (engine.Blocks p) = BlocksFails columns text p
BlockSlopesFail columns SlopeFails text (engine.Slope p) = (m : BlocksView) × ReadsBlocks columns text m
    × SlopeFails m p
BlockSlopesFail columns SlopeFails text engine.Memory = Unit {0}
BlockSlopesFail columns SlopeFails text engine.Device = Unit {0}
BlockSlopesFail columns SlopeFails text _ = ⊥

-- those of a pattern, and those of regions
abbrev pub PatternSlopesFail : (List Offset → Type 0) → (PatternFault → Type 0) → List ℕ → Up → Selection
    → EngineFault → Type 0
PatternSlopesFail IsPatternOf Refused text up selection fault = BlockSlopesFail []
    (λ m. PatternSlopeFails IsPatternOf Refused m up selection) text fault

abbrev pub RegionSlopesFail : List (List Offset) → List ℕ → List ℕ → Up → Selection → EngineFault → Type 0
RegionSlopesFail slopes columns text up selection fault = BlockSlopesFail columns
    (λ m. RegionSlopeFails slopes m up selection) text fault

-- those of the slopes that settings name by region, or of the offsets that they list
abbrev pub SlopesSaidFail : Option (List (List Offset)) → SettingsView → List ℕ → Up → Selection → EngineFault → Type 0
SlopesSaidFail None said text up selection fault = PatternSlopesFail (AreOffsets (Contains (listed_offsets said)))
    (ListFails (listed_offsets said)) text up selection fault
SlopesSaidFail (Some slopes) said text up selection fault = RegionSlopesFail slopes (region_columns said) text up
    selection fault

-- Why an engine answers a fault: it stands, and none before it does. Want of memory and a failing device say nothing of
-- the texts.
abbrev pub ListedSlopesFail : List ℕ → List ℕ → Up → Selection → EngineFault → Type 0
ListedSlopesFail settings text up selection (engine.Settings p) = SettingsFails offset_keys [] settings p
ListedSlopesFail settings text up selection engine.Memory = Unit {0}
ListedSlopesFail settings text up selection engine.Device = Unit {0}
ListedSlopesFail settings text up selection fault = KeysSaid offset_keys [] settings
    × SlopesSaidFail (settings_of settings).slopes (settings_of settings) text up selection fault

abbrev pub SourceSlopesFail : OffsetsSource → List ℕ → Up → Selection → EngineFault → Type 0
SourceSlopesFail (named choice) text up selection fault = PatternSlopesFail (IsChosen choice) (ChoiceFails choice)
    text up selection fault
SourceSlopesFail (listed settings) text up selection fault = ListedSlopesFail settings text up selection fault

-- ---- the engines

-- The precedence file was written of pairs of which this holds.
pub record WritesPairs (Are : RestsView → Type 0) (old new : Option (List ℕ)) : Type 0 where
  pub rests : RestsView
  pub are : Are rests
  pub written : Appends old new (prec_text rests)

-- nothing was written, or a front of that file
abbrev pub WritesPairsFront : (RestsView → Type 0) → Option (List ℕ) → Option (List ℕ) → Type 0
WritesPairsFront Are old new = Keeps old new
    ⊎ ((rests : RestsView) × Are rests × ReceivedPrefix old new (prec_text rests))

-- what is in the writer at a fault: what was there before, unless a device failed
abbrev pub PairsAtFault : (RestsView → Type 0) → Option (List ℕ) → Option (List ℕ) → EngineFault → Type 0
PairsAtFault Are old new engine.Device = WritesPairsFront Are old new
PairsAtFault Are old new _ = Keeps old new

-- the answer, and what was written with it: the file of the pairs, or a fault that stands
abbrev pub GivesPairs : (RestsView → Type 0) → (EngineFault → Type 0) → Option (List ℕ) → Option (List ℕ)
    → Result Verdict EngineFault → Type 0
GivesPairs Are Fails old new (Ok Done) = WritesPairs Are old new
GivesPairs Are Fails old new (Ok No) = ⊥
GivesPairs Are Fails old new (Err fault) = Fails fault × PairsAtFault Are old new fault

-- what is answered and written for a source of offsets and a text of blocks
abbrev pub GivesSlopes : OffsetsSource → List ℕ → Up → Selection → Option (List ℕ) → Option (List ℕ)
    → Result Verdict EngineFault → Type 0
GivesSlopes source text up selection = GivesPairs (AreSlopesBy source text up selection)
    (SourceSlopesFail source text up selection)

-- ---- their parts

-- how making a pattern fails, where it may fail so
abbrev pub PatternMakingFails : (PatternFault → Type 0) → EngineFault → Type 0
PatternMakingFails Refused (engine.Slope (of.Pattern fault)) = Refused fault
PatternMakingFails Refused engine.Memory = Unit {0}
PatternMakingFails Refused _ = ⊥

-- how making the pairs of offsets fails
abbrev pub PairsMakingFail : BlocksView → List Offset → Up → Selection → EngineFault → Type 0
PairsMakingFail m offsets up selection (engine.Slope (of.Pairs fault)) = PairsFail m offsets up selection fault
PairsMakingFail m offsets up selection engine.Memory = Unit {0}
PairsMakingFail m offsets up selection _ = ⊥

-- how making the pairs of regions fails
abbrev pub RegionsMakingFail : List (List Offset) → BlocksView → Up → Selection → EngineFault → Type 0
RegionsMakingFail slopes m up selection (engine.Slope (of.Regions fault)) = RegionsFail slopes m up selection fault
RegionsMakingFail slopes m up selection engine.Memory = Unit {0}
RegionsMakingFail slopes m up selection _ = ⊥
