-- From what is read of the settings, the blocks and the values of a mine to the mine of the three.
use Rattle.fixed_worth.proofs.Common.{◌≡◌, ℕ, ℤ, pos, ◌*ℤ◌, ◌<◌, Bool, false, List, [], ◌∷◌, length, map, get_or, refl}
use Rattle.fixed_worth.proofs.Common.{sym, ap, ◌∙◌, subst, arith, Option, Some, None, IfSome, cond, length-map}
use Rattle.fixed_worth.proofs.Common.{get_or-map}
use Rattle.blocks_file.specs.Records as blocks
use Rattle.blocks_file.specs.Denotes.{BlocksView, DenotesModel}
use Rattle.closure_net.proofs.Views.{same_at_default}
use Rattle.prec_file.specs.Rests.{RestsView}
use Rattle.upit_file.specs.Records as upit
use Rattle.settings_file.specs.Settings.{SettingsView, settings_of, first_missing, is_said}
use Rattle.settings_file.specs.declared.keys.Key.TheVariants.{Slopes}
use Rattle.settings_file.specs.declared.settings_fault.SettingsFault.TheVariants as settings_fault
use Rattle.settings_file.proofs.Known.{settings_are}
use Rattle.engine_faults.specs.declared.engine_fault.EngineFault.{EngineFault}
use Rattle.engine_faults.specs.declared.engine_fault.EngineFault.TheVariants as engine
use Rattle.engine_faults.specs.declared.engine_fault.Problem.TheVariants as problem
use Rattle.mine_inputs.specs.declared.worths.Worths.TheVariants.{Values}
use Rattle.mine_inputs.specs.Prelude.{ArePairsBy, ArePlacedTexts, AreValuedTexts, AreWorthsOf, BlocksFails}
use Rattle.mine_inputs.specs.Prelude.{BlocksReadFails, IsMineRead, MineFails, PairsSaidFail, PlacesFail, PlacesRead}
use Rattle.mine_inputs.specs.Prelude.{ReadsBlocks, ReadsSettingsText, ReadsValues, SettingsReadFails, SlopesFail}
use Rattle.mine_inputs.specs.Prelude.{SlopesRead, ValuesReadFail, WorthsRead, cells, model_in, nanos_at, placed_in}
use Rattle.mine_inputs.specs.Prelude.{placing_keys, region_columns, rests_said, valued_texts}
use Rattle.mine_inputs.proofs.MineDevices.{always, under, under2}
use Rattle.mine_inputs.proofs.MinesRead.{mine_of_parts}
use Rattle.mine_inputs.proofs.PricedAnswers.{key_missing, keys_said, settings_refused}
use Rattle.mine_inputs.proofs.SlopedAnswers.{column_of_text, places_are}

-- ---- the blocks of a text

columns_are : (chosen text : List ℕ) (m : BlocksView) → DenotesModel chosen text m → m.columns ≡ map (cells text) chosen
columns_are chosen text m d =
    let all = d.all_columns in
    same_at_default [] m.columns (map (cells text) chosen) (all ∙ sym (length-map chosen (cells text))) (λ i l.
    let inside : i < length chosen = omega (arith, l, all) in
    column_of_text chosen text m i d inside ∙ sym (get_or-map (cells text) chosen i 0 [] inside))

model_is : (chosen text : List ℕ) (m : BlocksView) → DenotesModel chosen text m → m ≡ model_in chosen text
model_is chosen text m d =
    let count = d.count in
    let places = places_are chosen text m d in
    let columns = columns_are chosen text m d in
    λ i. record { blocks = count i; places = places i; columns = columns i }

-- ---- settings, blocks and values that were read

places_read : (s b : List ℕ) (said : SettingsView) (m : BlocksView) → ArePlacedTexts s b said m
    → PlacesRead s b m.blocks
places_read s b said m t = record {
  keys = keys_said placing_keys [] s said t.settings_read t.whole;
  within = t.blocks_read.0;
  read = subst (λ (x : SettingsView). blocks.blocks_fault_of (region_columns x) b ≡ None)
      (sym (settings_are s said t.settings_read.1)) t.blocks_read.1;
  count = sym t.blocks_read.2.count;
}

module _ (s b v : List ℕ) (said : SettingsView) (m : BlocksView) (values : upit.UpitView)
    (t : AreValuedTexts s b v said m values) where
  known : settings_of s ≡ said
  known = settings_are s said t.placed.settings_read.1

  place : m ≡ placed_in said b
  place = model_is (region_columns said) b m t.placed.blocks_read.2

  worths_read : WorthsRead (valued_texts s b v) m.blocks
  worths_read = (places_read s b said m t.placed, t.valued.0)

  -- the slopes give no pairs
  pub slopes_fail : (e : EngineFault) → PairsSaidFail said m e → MineFails (valued_texts s b v) e
  slopes_fail (engine.Slope fault) h = (
    m.blocks,
    worths_read,
    subst (λ (x : SettingsView). SlopesFail x (placed_in x b) fault) (sym known)
        (subst (λ (x : BlocksView). SlopesFail said x fault) place h),
  )
  slopes_fail engine.Memory h = tt
  slopes_fail _ h = absurd h

  size : length values.values ≡ m.blocks
  size = t.valued.1.count

  worth_at_each : (factor c : ℕ) → c < length values.values → get_or (nanos_at (Values values) factor) c (pos 0)
      ≡ pos 1000 *ℤ upit.upit_value_at v c
  worth_at_each factor c l =
      let below : c < m.blocks = omega (arith, l, size) in
      get_or-map (λ x. pos 1000 *ℤ x) values.values c (pos 0) (pos 0) l
      ∙ ap (λ x. pos 1000 *ℤ x) (t.valued.1.worth c below)

  worths_are : (factor : ℕ) → AreWorthsOf (valued_texts s b v) factor (Values values)
  worths_are factor = record {
    read = subst (WorthsRead (valued_texts s b v)) (sym size) worths_read;
    are = record { size = length-map values.values (λ x. pos 1000 *ℤ x); each = worth_at_each factor };
    price = refl;
    ways = record { size = refl; count = refl; each = λ way c l. worth_at_each factor c l; most = λ c l. refl };
  }

  -- they give them
  pub valued_read : (factor : ℕ) (rests : RestsView) → rests.blocks ≡ m.blocks → SlopesRead said m
      → ArePairsBy (rests_said said m) rests.pairs → IsMineRead (valued_texts s b v) factor (Values values) rests
  valued_read factor rests count right pairs =
      let given : SlopesRead (settings_of s) (placed_in (settings_of s) b) = subst
      (λ (x : SettingsView). SlopesRead x (placed_in x b)) (sym known)
      (subst (λ (x : BlocksView). SlopesRead said x) place right) in
      let listed : ArePairsBy (rests_said (settings_of s) (placed_in (settings_of s) b)) rests.pairs =
      subst (λ (x : SettingsView). ArePairsBy (rests_said x (placed_in x b)) rests.pairs) (sym known)
      (subst (λ (x : BlocksView). ArePairsBy (rests_said said x) rests.pairs) place pairs) in
      mine_of_parts (valued_texts s b v) factor (Values values) rests (size ∙ sym count) (worths_are factor) given
      listed

-- ---- the readers of settings and blocks, where they tell their bytes

module _ (o q : Option (List ℕ)) where
  abbrev pub ForPlaced : (List ℕ → List ℕ → Type 0) → Type 0
  ForPlaced P = IfSome o (λ s. IfSome q (λ b. P s b))

  settings_fail : (s b : List ℕ) (e : EngineFault) → SettingsReadFails [] s e → PlacesFail s b e
  settings_fail s b (engine.Settings p) h = settings_refused placing_keys [] s p h
  settings_fail s b engine.Memory h = tt
  settings_fail s b engine.Device h = tt
  settings_fail s b _ h = absurd h

  pub settings_unread : (e : EngineFault) → IfSome o (λ s. SettingsReadFails [] s e)
      → ForPlaced (λ s b. PlacesFail s b e)
  settings_unread e h = under o (λ s. SettingsReadFails [] s e) (λ s. IfSome q (λ b. PlacesFail s b e)) h
      (λ s f. always q (λ b. PlacesFail s b e) (λ b. settings_fail s b e f))

  module _ (said : SettingsView) (a : IfSome o (λ s. ReadsSettingsText [] s said)) where
    lacking : (s b : List ℕ) → is_said said Slopes ≡ false → ReadsSettingsText [] s said
        → PlacesFail s b (engine.Settings (problem.Fault (settings_fault.Missing Slopes)))
    lacking s b n r = key_missing placing_keys [] s said Slopes r (ap (λ (t : Bool). cond t None (Some Slopes)) n)

    pub slopes_unsaid : is_said said Slopes ≡ false
        → ForPlaced (λ s b. PlacesFail s b (engine.Settings (problem.Fault (settings_fault.Missing Slopes))))
    slopes_unsaid n =
        let e = engine.Settings (problem.Fault (settings_fault.Missing Slopes)) in
        under o (λ s. ReadsSettingsText [] s said) (λ s. IfSome q (λ b. PlacesFail s b e)) a
        (λ s r. always q (λ b. PlacesFail s b e) (λ b. lacking s b n r))

    module _ (whole : first_missing (placing_keys said) said ≡ None) where
      blocks_fail : (s b : List ℕ) (e : EngineFault) → ReadsSettingsText [] s said
          → BlocksReadFails (region_columns said) b e → PlacesFail s b e
      blocks_fail s b (engine.Blocks p) r h = (
        keys_said placing_keys [] s said r whole,
        subst (λ (x : SettingsView). BlocksFails (region_columns x) b p)
            (sym (settings_are s said r.1)) h,
      )
      blocks_fail s b engine.Memory r h = tt
      blocks_fail s b engine.Device r h = tt
      blocks_fail s b _ r h = absurd h

      pub blocks_unread : (e : EngineFault) → IfSome q (λ b. BlocksReadFails (region_columns said) b e)
          → ForPlaced (λ s b. PlacesFail s b e)
      blocks_unread e h = under o (λ s. ReadsSettingsText [] s said) (λ s. IfSome q (λ b. PlacesFail s b e)) a (λ s r.
          under q (λ b. BlocksReadFails (region_columns said) b e) (λ b. PlacesFail s b e) h
          (λ b f. blocks_fail s b e r f))

      pub placed_read : (m : BlocksView) → IfSome q (λ b. ReadsBlocks (region_columns said) b m)
          → ForPlaced (λ s b. ArePlacedTexts s b said m)
      placed_read m h = under o (λ s. ReadsSettingsText [] s said) (λ s. IfSome q (λ b. ArePlacedTexts s b said m)) a
          (λ s r.
          under q (λ b. ReadsBlocks (region_columns said) b m) (λ b. ArePlacedTexts s b said m) h
          (λ b f. record { settings_read = r; whole = whole; blocks_read = f }))

-- ---- and that of values

beside : (o q r : Option (List ℕ)) (A : List ℕ → List ℕ → Type 0) (R : List ℕ → Type 0)
    (Q : List ℕ → List ℕ → List ℕ → Type 0) → IfSome o (λ s. IfSome q (λ b. A s b)) → IfSome r R
    → ((s b v : List ℕ) → A s b → R v → Q s b v) → IfSome o (λ s. IfSome q (λ b. IfSome r (λ v. Q s b v)))
beside (Some s) (Some b) (Some v) A R Q h k f = f s b v h k
beside _ _ _ A R Q h k f = tt

places_fail : (s b v : List ℕ) (e : EngineFault) → PlacesFail s b e → MineFails (valued_texts s b v) e
places_fail s b v (engine.Settings p) h = h
places_fail s b v (engine.Blocks p) h = h
places_fail s b v engine.Memory h = tt
places_fail s b v engine.Device h = tt
places_fail s b v _ h = absurd h

module _ (o q r : Option (List ℕ)) where
  abbrev pub ForValued : (List ℕ → List ℕ → List ℕ → Type 0) → Type 0
  ForValued P = IfSome o (λ s. IfSome q (λ b. IfSome r (λ v. P s b v)))

  pub places_unread : (e : EngineFault) → ForPlaced o q (λ s b. PlacesFail s b e)
      → ForValued (λ s b v. MineFails (valued_texts s b v) e)
  places_unread e h = under2 o q (λ s b. PlacesFail s b e) (λ s b. IfSome r (λ v. MineFails (valued_texts s b v) e)) h
      (λ s b f. always r (λ v. MineFails (valued_texts s b v) e) (λ v. places_fail s b v e f))

  module _ (said : SettingsView) (m : BlocksView) (a : ForPlaced o q (λ s b. ArePlacedTexts s b said m)) where
    values_fail : (s b v : List ℕ) (e : EngineFault) → ArePlacedTexts s b said m → ValuesReadFail m.blocks v e
        → MineFails (valued_texts s b v) e
    values_fail s b v (engine.Upit p) t h = (m.blocks, places_read s b said m t, h)
    values_fail s b v engine.Memory t h = tt
    values_fail s b v engine.Device t h = tt
    values_fail s b v _ t h = absurd h

    pub values_unread : (e : EngineFault) → IfSome r (λ v. ValuesReadFail m.blocks v e)
        → ForValued (λ s b v. MineFails (valued_texts s b v) e)
    values_unread e h = beside o q r (λ s b. ArePlacedTexts s b said m) (λ v. ValuesReadFail m.blocks v e)
        (λ s b v. MineFails (valued_texts s b v) e) a h (λ s b v t f. values_fail s b v e t f)

    pub texts_read : (values : upit.UpitView) → IfSome r (λ v. ReadsValues m.blocks v values)
        → ForValued (λ s b v. AreValuedTexts s b v said m values)
    texts_read values h = beside o q r (λ s b. ArePlacedTexts s b said m) (λ v. ReadsValues m.blocks v values)
        (λ s b v. AreValuedTexts s b v said m values) a h (λ s b v t f. record { placed = t; valued = f })
