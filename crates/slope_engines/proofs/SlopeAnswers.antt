-- From the parts of the engines of slopes to their answers, where the readers tell their bytes.
use Rattle.fixed_worth.proofs.Common.{◌≡◌, ℕ, List, [], sym, subst, Option, Some, None, Result, Ok, Err, inl, inr}
use Rattle.fixed_worth.proofs.Common.{IfSome, Contains, Appends}
use Rattle.counted_devices.specs.Device.{ReceivedPrefix}
use Rattle.blocks_file.specs.Denotes.{BlocksView}
use Rattle.prec_file.specs.Prelude.{RestsView, prec_text}
use Rattle.settings_file.specs.Settings.{SettingsView, settings_of, first_missing}
use Rattle.settings_file.specs.declared.keys.Key.{Key}
use Rattle.settings_file.specs.declared.settings_fault.SettingsFault.{SettingsFault}
use Rattle.settings_file.specs.declared.settings_fault.SettingsFault.TheVariants as settings_fault
use Rattle.settings_file.proofs.Known.{settings_are}
use Rattle.slope_offsets.specs.Prelude.{Offset, AreOffsets}
use Rattle.slope.specs.Prelude.{AreOwnSlopes, AreSlopes, own_offsets}
use Rattle.slope_offsets.specs.declared.up.Up.{Up}
use Rattle.slope_offsets.specs.declared.selection.Selection.{Selection}
use Rattle.check_engines.specs.declared.judgement.Verdict.{Verdict}
use Rattle.check_engines.specs.declared.judgement.Verdict.TheVariants.{Done, No}
use Rattle.engine_faults.specs.declared.engine_fault.Problem.{Problem}
use Rattle.engine_faults.specs.declared.engine_fault.Problem.TheVariants as problem
use Rattle.engine_faults.specs.declared.engine_fault.SlopeProblem.{SlopeProblem}
use Rattle.engine_faults.specs.declared.engine_fault.SlopeProblem.TheVariants as of
use Rattle.engine_faults.specs.declared.engine_fault.EngineFault.{EngineFault}
use Rattle.engine_faults.specs.declared.engine_fault.EngineFault.TheVariants as engine
use Rattle.mine_inputs.specs.Prelude.{ReadsBlocks, BlocksReadFails, KeysSaid, ReadsSettingsText, SettingsReadFails}
use Rattle.mine_inputs.specs.Prelude.{region_columns}
use Rattle.slope_engines.specs.Slopes.{offset_keys, listed_offsets, up_chosen, listed, ListFails, AreSlopesBy}
use Rattle.slope_engines.specs.Slopes.{AreSlopesOfPattern, AreSlopesOfRegions, AreSlopesSaid, PatternSlopesFail}
use Rattle.slope_engines.specs.Slopes.{RegionSlopesFail, SlopesSaidFail, ListedSlopesFail, BlockSlopesFail}
use Rattle.slope_engines.specs.Slopes.{PairsAtFault, GivesPairs, GivesSlopes, PatternMakingFails, PairsMakingFail}
use Rattle.slope_engines.specs.Slopes.{RegionsMakingFail}
use Rattle.check_engines.proofs.Answered.{keeps_self}
use Rattle.mine_inputs.proofs.MineDevices.{under}
use Rattle.mine_inputs.proofs.PricedAnswers.{anything, key_missing, keys_said}

under2 : (o q : Option (List ℕ)) (P R : List ℕ → Type 0) (Q : List ℕ → List ℕ → Type 0) → IfSome o P → IfSome q R
    → ((s b : List ℕ) → P s → R b → Q s b) → IfSome o (λ s. IfSome q (λ b. Q s b))
under2 (Some s) (Some b) P R Q h k f = f s b h k
under2 o q P R Q h k f = tt

-- nothing was written: so it is at any fault
pub unwritten : (Are : RestsView → Type 0) (w : Option (List ℕ)) (e : EngineFault) → PairsAtFault Are w w e
unwritten Are w engine.Device = inl (keeps_self w)
unwritten Are w e = keeps_self w

-- what is written where weaker things are said of the pairs and of faults
at_fault : (Are Other : RestsView → Type 0) (old new : Option (List ℕ)) (e : EngineFault)
    → ((r : RestsView) → Are r → Other r) → PairsAtFault Are old new e → PairsAtFault Other old new e
at_fault Are Other old new engine.Device f (inl k) = inl k
at_fault Are Other old new engine.Device f (inr k) = inr (k.0, f k.0 k.1, k.2)
at_fault Are Other old new e f k = k

pub gives_other : (Are Other : RestsView → Type 0) (Fails OtherFails : EngineFault → Type 0)
    (old new : Option (List ℕ)) (answer : Result Verdict EngineFault) → ((r : RestsView) → Are r → Other r)
    → ((e : EngineFault) → Fails e → OtherFails e) → GivesPairs Are Fails old new answer
    → GivesPairs Other OtherFails old new answer
gives_other Are Other Fails OtherFails old new (Ok Done) f g h = record
    { rests = h.rests; are = f h.rests h.are; written = h.written }
gives_other Are Other Fails OtherFails old new (Ok No) f g h = h
gives_other Are Other Fails OtherFails old new (Err e) f g h = (g e h.0, at_fault Are Other old new e f h.1)

-- ---- after the settings, where the reader tells the text of blocks

module _ (q : Option (List ℕ)) (P : List ℕ → Type 0) (Are : List ℕ → RestsView → Type 0)
    (Fails : List ℕ → EngineFault → Type 0) (read : IfSome q P) where
  fault_given : (w : Option (List ℕ)) (e : EngineFault) → ((b : List ℕ) → P b → Fails b e)
      → IfSome q (λ b. GivesPairs (Are b) (Fails b) w w (Err e))
  fault_given w e f = under q P (λ b. GivesPairs (Are b) (Fails b) w w (Err e)) read
      (λ b h. (f b h, unwritten (Are b) w e))

  pairs_given : (old new : Option (List ℕ)) (rests : RestsView) → ((b : List ℕ) → P b → Are b rests)
      → Appends old new (prec_text rests) → IfSome q (λ b. GivesPairs (Are b) (Fails b) old new (Ok Done))
  pairs_given old new rests f sent = under q P (λ b. GivesPairs (Are b) (Fails b) old new (Ok Done)) read
      (λ b h. record { rests = rests; are = f b h; written = sent })

  front_given : (old new : Option (List ℕ)) (rests : RestsView) (e : EngineFault) → e ≡ engine.Device
      → ((b : List ℕ) → Fails b engine.Device) → ((b : List ℕ) → P b → Are b rests)
      → ReceivedPrefix old new (prec_text rests) → IfSome q (λ b. GivesPairs (Are b) (Fails b) old new (Err e))
  front_given old new rests e is fails f prefix = under q P (λ b. GivesPairs (Are b) (Fails b) old new (Err e)) read
      (λ b h.
      subst (λ (x : EngineFault). GivesPairs (Are b) (Fails b) old new (Err x)) (sym is)
      (fails b, inr (rests, f b h, prefix)))

blocks_fail : (columns : List ℕ) (Slope : BlocksView → SlopeProblem → Type 0) (b : List ℕ) (e : EngineFault)
    → BlocksReadFails columns b e → BlockSlopesFail columns Slope b e
blocks_fail columns Slope b (engine.Blocks p) h = h
blocks_fail columns Slope b engine.Memory h = tt
blocks_fail columns Slope b engine.Device h = tt
blocks_fail columns Slope b e h = absurd h

-- ---- by one list of offsets

module _ (q : Option (List ℕ)) (xs : List Offset) (up : Up) (sel : Selection) where
  abbrev pub PatternAre : List ℕ → RestsView → Type 0
  PatternAre b = AreSlopesOfPattern (AreOffsets (Contains xs)) b up sel

  abbrev pub PatternFails : List ℕ → EngineFault → Type 0
  PatternFails b = PatternSlopesFail (AreOffsets (Contains xs)) (ListFails xs) b up sel

  abbrev pub PatternGives : Option (List ℕ) → Option (List ℕ) → Result Verdict EngineFault → Type 0
  PatternGives old new answer = IfSome q (λ b. GivesPairs (PatternAre b) (PatternFails b) old new answer)

  pub pattern_blocks : (w : Option (List ℕ)) (e : EngineFault) → IfSome q (λ b. BlocksReadFails [] b e)
      → PatternGives w w (Err e)
  pattern_blocks w e f = fault_given q (λ b. BlocksReadFails [] b e) PatternAre PatternFails f w e
      (λ b h. blocks_fail [] _ b e h)

  module _ (m : BlocksView) (read : IfSome q (λ b. ReadsBlocks [] b m)) where
    no_pattern : (b : List ℕ) (e : EngineFault) → ReadsBlocks [] b m → PatternMakingFails (ListFails xs) e
        → PatternFails b e
    no_pattern b (engine.Slope (of.Pattern f)) k h = (m, k, h)
    no_pattern b engine.Memory k h = tt
    no_pattern b e k h = absurd h

    pub pattern_refused : (w : Option (List ℕ)) (e : EngineFault) → PatternMakingFails (ListFails xs) e
        → PatternGives w w (Err e)
    pattern_refused w e h = fault_given q (λ b. ReadsBlocks [] b m) PatternAre PatternFails read w e
        (λ b k. no_pattern b e k h)

    module _ (offsets : List Offset) (are : AreOffsets (Contains xs) offsets) where
      no_pairs : (b : List ℕ) (e : EngineFault) → ReadsBlocks [] b m → PairsMakingFail m offsets up sel e
          → PatternFails b e
      no_pairs b (engine.Slope (of.Pairs f)) k h = (m, k, (offsets, are, h))
      no_pairs b engine.Memory k h = tt
      no_pairs b e k h = absurd h

      pub pairs_refused : (w : Option (List ℕ)) (e : EngineFault) → PairsMakingFail m offsets up sel e
          → PatternGives w w (Err e)
      pairs_refused w e h = fault_given q (λ b. ReadsBlocks [] b m) PatternAre PatternFails read w e
          (λ b k. no_pairs b e k h)

      pub pairs_written : (old new : Option (List ℕ)) (rests : RestsView) → AreSlopes m offsets up sel rests
          → Appends old new (prec_text rests) → PatternGives old new (Ok Done)
      pairs_written old new rests slopes sent = pairs_given q (λ b. ReadsBlocks [] b m) PatternAre PatternFails read
          old new rests (λ b k. record { model = m; read = k; offsets = offsets; are = are; slopes = slopes }) sent

      pub pairs_cut : (old new : Option (List ℕ)) (rests : RestsView) (e : EngineFault) → e ≡ engine.Device
          → AreSlopes m offsets up sel rests → ReceivedPrefix old new (prec_text rests) → PatternGives old new (Err e)
      pairs_cut old new rests e is slopes prefix = front_given q (λ b. ReadsBlocks [] b m) PatternAre PatternFails
          read old new rests e is (λ b. tt)
          (λ b k. record { model = m; read = k; offsets = offsets; are = are; slopes = slopes }) prefix

-- ---- by the slopes of regions

module _ (q : Option (List ℕ)) (slopes : List (List Offset)) (columns : List ℕ) (up : Up) (sel : Selection) where
  abbrev pub RegionsAre : List ℕ → RestsView → Type 0
  RegionsAre b = AreSlopesOfRegions slopes columns b up sel

  abbrev pub RegionsFailed : List ℕ → EngineFault → Type 0
  RegionsFailed b = RegionSlopesFail slopes columns b up sel

  abbrev pub RegionsGive : Option (List ℕ) → Option (List ℕ) → Result Verdict EngineFault → Type 0
  RegionsGive old new answer = IfSome q (λ b. GivesPairs (RegionsAre b) (RegionsFailed b) old new answer)

  pub region_blocks : (w : Option (List ℕ)) (e : EngineFault) → IfSome q (λ b. BlocksReadFails columns b e)
      → RegionsGive w w (Err e)
  region_blocks w e f = fault_given q (λ b. BlocksReadFails columns b e) RegionsAre RegionsFailed f w e
      (λ b h. blocks_fail columns _ b e h)

  module _ (m : BlocksView) (read : IfSome q (λ b. ReadsBlocks columns b m)) where
    no_regions : (b : List ℕ) (e : EngineFault) → ReadsBlocks columns b m → RegionsMakingFail slopes m up sel e
        → RegionsFailed b e
    no_regions b (engine.Slope (of.Regions f)) k h = (m, k, h)
    no_regions b engine.Memory k h = tt
    no_regions b e k h = absurd h

    pub regions_refused : (w : Option (List ℕ)) (e : EngineFault) → RegionsMakingFail slopes m up sel e
        → RegionsGive w w (Err e)
    regions_refused w e h = fault_given q (λ b. ReadsBlocks columns b m) RegionsAre RegionsFailed read w e
        (λ b k. no_regions b e k h)

    pub regions_written : (old new : Option (List ℕ)) (rests : RestsView)
        → AreOwnSlopes m (own_offsets slopes m) up sel rests → Appends old new (prec_text rests)
        → RegionsGive old new (Ok Done)
    regions_written old new rests are sent = pairs_given q (λ b. ReadsBlocks columns b m) RegionsAre RegionsFailed
        read old new rests (λ b k. record { model = m; read = k; slopes_are = are }) sent

    pub regions_cut : (old new : Option (List ℕ)) (rests : RestsView) (e : EngineFault) → e ≡ engine.Device
        → AreOwnSlopes m (own_offsets slopes m) up sel rests → ReceivedPrefix old new (prec_text rests)
        → RegionsGive old new (Err e)
    regions_cut old new rests e is are prefix = front_given q (λ b. ReadsBlocks columns b m) RegionsAre RegionsFailed
        read old new rests e is (λ b. tt) (λ b k. record { model = m; read = k; slopes_are = are }) prefix

-- ---- with the settings

no_settings : (slopes : Option (List (List Offset))) (said : SettingsView) (b : List ℕ) (up : Up) (sel : Selection)
    (p : Problem SettingsFault) → SlopesSaidFail slopes said b up sel (engine.Settings p) → ⊥
no_settings None said b up sel p h = h
no_settings (Some slopes) said b up sel p h = h

listed_fail : (s b : List ℕ) (up : Up) (sel : Selection) (e : EngineFault) → KeysSaid offset_keys [] s
    → SlopesSaidFail (settings_of s).slopes (settings_of s) b up sel e → ListedSlopesFail s b up sel e
listed_fail s b up sel (engine.Settings p) keys h = absurd
    (no_settings (settings_of s).slopes (settings_of s) b up sel p h)
listed_fail s b up sel engine.Memory keys h = tt
listed_fail s b up sel engine.Device keys h = tt
listed_fail s b up sel e keys h = (keys, h)

-- where the settings were read
module _ (o q : Option (List ℕ)) (up : Option Up) (sel : Selection) (said : SettingsView)
    (a : IfSome o (λ s. ReadsSettingsText [] s said)) (old new : Option (List ℕ)) where
  abbrev Said : List ℕ → SettingsView → Result Verdict EngineFault → Type 0
  Said b v answer = GivesPairs (AreSlopesSaid v.slopes v b (up_chosen up v) sel)
      (SlopesSaidFail v.slopes v b (up_chosen up v) sel) old new answer

  abbrev pub Listed : Result Verdict EngineFault → Type 0
  Listed answer = IfSome o
      (λ s. IfSome q (λ b. GivesSlopes (listed s) b (up_chosen up (settings_of s)) sel old new answer))

  said_listed : (answer : Result Verdict EngineFault) → first_missing (offset_keys said) said ≡ None
      → IfSome q (λ b. Said b said answer) → Listed answer
  said_listed answer whole h = under2 o q (λ s. ReadsSettingsText [] s said) (λ b. Said b said answer)
      (λ s b. GivesSlopes (listed s) b (up_chosen up (settings_of s)) sel old new answer) a h (λ s b r k.
      let keys = keys_said offset_keys [] s said r whole in
      let at = subst (λ (v : SettingsView). Said b v answer) (sym (settings_are s said r.1)) k in
      gives_other (AreSlopesSaid (settings_of s).slopes (settings_of s) b (up_chosen up (settings_of s)) sel) _
      (SlopesSaidFail (settings_of s).slopes (settings_of s) b (up_chosen up (settings_of s)) sel) _ old new
      answer (λ r f. (keys, f)) (λ e f. listed_fail s b (up_chosen up (settings_of s)) sel e keys f) at)

  abbrev Answered : Option (List (List Offset)) → Result Verdict EngineFault → Type 0
  Answered x answer = IfSome q
      (λ b. GivesPairs (AreSlopesSaid x said b (up_chosen up said) sel)
      (SlopesSaidFail x said b (up_chosen up said) sel) old new answer)

  -- they name slopes by region
  pub listed_regions : (slopes : List (List Offset)) (answer : Result Verdict EngineFault)
      → first_missing (offset_keys said) said ≡ None → said.slopes ≡ Some slopes
      → RegionsGive q slopes (region_columns said) (up_chosen up said) sel old new answer → Listed answer
  listed_regions slopes answer whole is h = said_listed answer whole (subst (λ x. Answered x answer) (sym is) h)

  -- they list offsets
  pub listed_pattern : (xs : List Offset) (answer : Result Verdict EngineFault)
      → first_missing (offset_keys said) said ≡ None → said.slopes ≡ None → xs ≡ listed_offsets said
      → PatternGives q xs (up_chosen up said) sel old new answer → Listed answer
  listed_pattern xs answer whole none same h =
      let X : List Offset → Type 0 = λ ys. PatternGives q ys (up_chosen up said) sel old new answer in
      said_listed answer whole (subst (λ x. Answered x answer) (sym none) (subst X same h))

-- a key is missing
pub listed_missing : (o q : Option (List ℕ)) (up : Option Up) (sel : Selection) (said : SettingsView)
    (w : Option (List ℕ)) (key : Key) → IfSome o (λ s. ReadsSettingsText [] s said)
    → first_missing (offset_keys said) said ≡ Some key
    → IfSome o (λ s. IfSome q
    (λ b. GivesSlopes (listed s) b (up_chosen up (settings_of s)) sel w w
    (Err (engine.Settings (problem.Fault (settings_fault.Missing key))))))
listed_missing o q up sel said w key a missed =
    under2 o q (λ s. ReadsSettingsText [] s said) (λ b. Unit {0})
    (λ s b. GivesSlopes (listed s) b (up_chosen up (settings_of s)) sel w w
    (Err (engine.Settings (problem.Fault (settings_fault.Missing key))))) a (anything q) (λ s b r t.
    (key_missing offset_keys [] s said key r missed, keeps_self w))

-- the settings weren't read
settings_fault_told : (s b : List ℕ) (up : Up) (sel : Selection) (e : EngineFault) → SettingsReadFails [] s e
    → ListedSlopesFail s b up sel e
settings_fault_told s b up sel (engine.Settings problem.InputTooLong) h = h
settings_fault_told s b up sel (engine.Settings (problem.Fault settings_fault.NotToml)) h = h
settings_fault_told s b up sel (engine.Settings (problem.Fault settings_fault.UnknownKey)) h = h
settings_fault_told s b up sel (engine.Settings (problem.Fault (settings_fault.BadValue key))) h = h
settings_fault_told s b up sel (engine.Settings (problem.Fault (settings_fault.Unused key))) h = h
settings_fault_told s b up sel (engine.Settings (problem.Fault (settings_fault.Missing key))) h = absurd
    (let z : None ≡ Some key = h.1.1 in cc)
settings_fault_told s b up sel (engine.Settings (problem.Fault settings_fault.NoMemory)) h = h
settings_fault_told s b up sel engine.Memory h = tt
settings_fault_told s b up sel engine.Device h = tt
settings_fault_told s b up sel _ h = absurd h

pub settings_unread : (o q : Option (List ℕ)) (up : Option Up) (sel : Selection) (w : Option (List ℕ))
    (e : EngineFault) → IfSome o (λ s. SettingsReadFails [] s e)
    → IfSome o (λ s. IfSome q (λ b. GivesSlopes (listed s) b (up_chosen up (settings_of s)) sel w w (Err e)))
settings_unread o q up sel w e h = under2 o q (λ s. SettingsReadFails [] s e) (λ b. Unit {0})
    (λ s b. GivesSlopes (listed s) b (up_chosen up (settings_of s)) sel w w (Err e)) h (anything q) (λ s b r t. (
      settings_fault_told s b (up_chosen up (settings_of s)) sel e r,
      unwritten
          (AreSlopesBy (listed s) b (up_chosen up (settings_of s)) sel) w e,
    ))
