-- From the parts of the reading of a mine with its factors to what was read, where the readers tell their bytes.
use Rattle.std.proofs.Common.{◌≡◌, ◌⊎◌, ℕ, Bool, true, false, List, [], ◌∷◌, sym, ap, ◌∙◌, subst, Option, Some, None}
use Rattle.std.proofs.Common.{inl, inr, IfSome, unwrap_or}
use Rattle.std.specs.Prelude.{option_map}
use Rattle.blocks_file.specs.Denotes.{BlocksView, narrowed}
use Rattle.prec_file.specs.Rests.{RestsView}
use Rattle.settings_file.specs.declared.keys.Key.{Key}
use Rattle.settings_file.specs.declared.keys.Key.TheVariants.{Factors, Slopes, Ways}
use Rattle.settings_file.specs.declared.settings_fault.SettingsFault.{SettingsFault}
use Rattle.settings_file.specs.declared.settings_fault.SettingsFault.TheVariants as settings_fault
use Rattle.settings_file.specs.Settings.{SettingsView, settings_of, is_said, names_mill, first_missing}
use Rattle.settings_file.proofs.Known.{settings_are}
use Rattle.settings_file.proofs.MissingKeys.{none_missing}
use Rattle.shells.specs.Prices.{PricesView, NoRevenueNegative}
use Rattle.engine_faults.specs.declared.engine_fault.EngineFault.{EngineFault}
use Rattle.engine_faults.specs.declared.engine_fault.EngineFault.TheVariants as engine
use Rattle.engine_faults.specs.declared.engine_fault.Problem.{Problem}
use Rattle.engine_faults.specs.declared.engine_fault.Problem.TheVariants as problem
use Rattle.mine_inputs.specs.declared.columns_of_prices.PriceColumns.{PriceColumns}
use Rattle.mine_inputs.specs.Prelude.{PrecedenceBy, by_slopes, by_text, is_sloped, price_keys, unused_by, SettingsFails}
use Rattle.mine_inputs.specs.Prelude.{ReadsSettingsText, SettingsReadFails, BlocksReadFails, IsMissing, ReadsBlocks}
use Rattle.mine_inputs.specs.Prelude.{ModelPricesFail, PairsSaidFail, SlopesRead, ArePairsBy, MineFails}
use Rattle.mine_inputs.specs.Prelude.{PricedMineFails, ArePricesRead, AreSlopedTexts, column_after, columns_beside}
use Rattle.mine_inputs.specs.Prelude.{columns_said, first_columns, place_beside, region_columns, rests_said}
use Rattle.mine_inputs.specs.Prelude.{sloped_keys, sloped_texts}
use Rattle.shell_engines.specs.SeriesTexts.{series_keys, factor_by, KeysKnown, IsSeriesRead, SeriesMineFails}
use Rattle.mine_inputs.proofs.MineDevices.{always, under, under2}
use Rattle.mine_inputs.proofs.PriceKeys.{prices_and_others, prices_with_others}
use Rattle.mine_inputs.proofs.PricedAnswers.{key_missing, keys_said, settings_refused}
use Rattle.mine_inputs.proofs.SlopedAnswers.{blocks_unread, texts_read, prices_refused, slopes_fail, pairs_found}
use Rattle.check_engines.proofs.Unread.{never}

-- ---- keys

-- none of the keys of prices is missing, nor the factors
keys_apart : (sloped : Bool) (said : SettingsView) → first_missing (series_keys sloped said) said ≡ None
    → (first_missing (price_keys said) said ≡ None) × (first_missing (Factors ∷ []) said ≡ None)
keys_apart false said whole = prices_and_others said (is_said said Ways) (names_mill said) (Factors ∷ []) whole
keys_apart true said whole =
    let apart = prices_and_others said (is_said said Ways) (names_mill said) (Slopes ∷ Factors ∷ []) whole in
    (apart.0, (none_missing said (Slopes ∷ []) (Factors ∷ []) apart.1).1)

pub prices_known : (sloped : Bool) (said : SettingsView) → first_missing (series_keys sloped said) said ≡ None
    → first_missing (price_keys said) said ≡ None
prices_known sloped said whole = (keys_apart sloped said whole).0

-- nor the slopes, where they are needed
pub slopes_known : (others : List Key) (said : SettingsView) → (first_missing (price_keys said) said ≡ None)
    × (first_missing (Slopes ∷ others) said ≡ None) → first_missing (sloped_keys said) said ≡ None
slopes_known others said apart = prices_with_others said (is_said said Ways) (names_mill said) (Slopes ∷ []) apart.0
    (none_missing said (Slopes ∷ []) others apart.1).0

sloped_known : (said : SettingsView) → first_missing (series_keys true said) said ≡ None
    → first_missing (sloped_keys said) said ≡ None
sloped_known said whole = slopes_known (Factors ∷ []) said
    (prices_and_others said (is_said said Ways) (names_mill said) (Slopes ∷ Factors ∷ []) whole)

keys_known : (p : PrecedenceBy) (s : List ℕ) (said : SettingsView)
    → ReadsSettingsText (unused_by (is_sloped p)) s said → first_missing (series_keys (is_sloped p) said) said ≡ None
    → KeysKnown (is_sloped p) s
keys_known p s said a whole = (keys_said (series_keys (is_sloped p)) (unused_by (is_sloped p)) s said a whole).said

-- a fault of settings, where none of the keys is missing that fewer need, is one where more are needed
pub settings_more : (needed more : SettingsView → List Key) (unused : List Key) (s : List ℕ)
    (q : Problem SettingsFault) → first_missing (needed (settings_of s)) (settings_of s) ≡ None
    → SettingsFails needed unused s q → SettingsFails more unused s q
settings_more needed more unused s (problem.Fault (settings_fault.Missing key)) none h = absurd (never _ key none h.1.1)
settings_more needed more unused s q none h = h

-- ---- settings

settings_fail_at : (s b : List ℕ) (p : PrecedenceBy) (e : EngineFault)
    → SettingsReadFails (unused_by (is_sloped p)) s e → SeriesMineFails s b p e
settings_fail_at s b p (engine.Settings q) h = settings_refused (series_keys (is_sloped p)) (unused_by (is_sloped p))
    s q h
settings_fail_at s b p engine.Memory h = tt
settings_fail_at s b p engine.Device h = tt
settings_fail_at s b p _ h = absurd h

-- this key is missing
missing_at : (s b : List ℕ) (p : PrecedenceBy) (said : SettingsView) (e : EngineFault)
    → ReadsSettingsText (unused_by (is_sloped p)) s said → IsMissing (series_keys (is_sloped p) said) said e
    → SeriesMineFails s b p e
missing_at s b p said e a m = subst (λ (f : EngineFault). SeriesMineFails s b p f) (sym m.1)
    (key_missing (series_keys (is_sloped p)) (unused_by (is_sloped p)) s said m.0 a m.2)

-- memory is refused: the factors are there
factors_refused_at : (s b : List ℕ) (p : PrecedenceBy) (said : SettingsView) (e : EngineFault)
    → first_missing (series_keys (is_sloped p) said) said ≡ None → (e ≡ engine.Memory)
    ⊎ IsMissing (Factors ∷ []) said e → SeriesMineFails s b p e
factors_refused_at s b p said e whole (inl is) = subst (λ (f : EngineFault). SeriesMineFails s b p f) (sym is) tt
factors_refused_at s b p said e whole (inr m) = absurd (never _ m.0 (keys_apart (is_sloped p) said whole).1 m.2)

mine_read_at : (s b : List ℕ) (p : PrecedenceBy) (said : SettingsView) (table : PricesView) (rests : RestsView)
    (factors : List ℕ) (factor : ℕ) → ReadsSettingsText (unused_by (is_sloped p)) s said → KeysKnown (is_sloped p) s
    → factors ≡ unwrap_or said.factors [] → factor ≡ factor_by said
    → ArePricesRead s b p table rests → IsSeriesRead s b p table rests factors factor
mine_read_at s b p said table rests factors factor a keys is at h =
    let same = sym (settings_are s said a.1) in
    record {
      mine = h;
      keys = keys;
      factors_are = is
          ∙ ap (λ (v : SettingsView). unwrap_or v.factors []) same;
      factor_is = at ∙ ap factor_by same;
    }

-- ---- a precedence of its own: readers that tell their bytes

module _ (o q r : Option (List ℕ)) where
  abbrev ForListed : (List ℕ → List ℕ → PrecedenceBy → Type 0) → Type 0
  ForListed P = IfSome o (λ s. IfSome q (λ b. IfSome r (λ p. P s b (by_text p))))

  listed_always : (P : List ℕ → Type 0) (Q : List ℕ → List ℕ → PrecedenceBy → Type 0) → IfSome o P
      → ((s b p : List ℕ) → P s → Q s b (by_text p)) → ForListed Q
  listed_always P Q h f = under o P (λ s. IfSome q (λ b. IfSome r (λ p. Q s b (by_text p)))) h
      (λ s a. always q (λ b. IfSome r (λ p. Q s b (by_text p)))
      (λ b. always r (λ p. Q s b (by_text p)) (λ p. f s b p a)))

  pub settings_unread : (e : EngineFault) → IfSome o (λ s. SettingsReadFails (unused_by false) s e)
      → ForListed (λ s b p. SeriesMineFails s b p e)
  settings_unread e h = listed_always (λ s. SettingsReadFails (unused_by false) s e)
      (λ s b p. SeriesMineFails s b p e) h (λ s b p f. settings_fail_at s b (by_text p) e f)

  module _ (said : SettingsView) (a : IfSome o (λ s. ReadsSettingsText (unused_by false) s said)) where
    pub columns_missing : (e : EngineFault) → IsMissing (series_keys false said) said e
        → ForListed (λ s b p. SeriesMineFails s b p e)
    columns_missing e m = listed_always (λ s. ReadsSettingsText (unused_by false) s said)
        (λ s b p. SeriesMineFails s b p e) a (λ s b p r. missing_at s b (by_text p) said e r m)

    module _ (whole : first_missing (series_keys false said) said ≡ None) where
      pub factors_refused : (e : EngineFault) → (e ≡ engine.Memory) ⊎ IsMissing (Factors ∷ []) said e
          → ForListed (λ s b p. SeriesMineFails s b p e)
      factors_refused e m = listed_always (λ s. ReadsSettingsText (unused_by false) s said)
          (λ s b p. SeriesMineFails s b p e) a (λ s b p r. factors_refused_at s b (by_text p) said e whole m)

-- the texts of a mine of prices, whose keys are known, aren't read
mine_fails_at : (s b p : List ℕ) (e : EngineFault) → KeysKnown false s → PricedMineFails s b p e
    → SeriesMineFails s b (by_text p) e
mine_fails_at s b p (engine.Settings q) keys h = settings_more price_keys (series_keys false) (unused_by false) s q
    (prices_known false (settings_of s) keys) h
mine_fails_at s b p (engine.Blocks q) keys h = (keys, λ factor. h)
mine_fails_at s b p (engine.Prices q) keys h = (keys, λ factor. h)
mine_fails_at s b p (engine.Prec q) keys h = (keys, λ factor. h)
mine_fails_at s b p engine.Memory keys h = tt
mine_fails_at s b p engine.Device keys h = tt
mine_fails_at s b p e keys h = absurd h

pub mine_fails : (o q r : Option (List ℕ)) (said : SettingsView) (e : EngineFault)
    → IfSome o (λ s. ReadsSettingsText (unused_by false) s said) → first_missing (series_keys false said) said ≡ None
    → IfSome o (λ s. IfSome q (λ b. IfSome r (λ p. PricedMineFails s b p e)))
    → IfSome o (λ s. IfSome q (λ b. IfSome r (λ p. SeriesMineFails s b (by_text p) e)))
mine_fails (Some s) (Some b) (Some p) said e a whole h = mine_fails_at s b p e (keys_known (by_text p) s said a whole) h
mine_fails o q r said e a whole h = tt

pub mine_read : (o q r : Option (List ℕ)) (said : SettingsView) (table : PricesView) (rests : RestsView)
    (factors : List ℕ) (factor : ℕ) → IfSome o (λ s. ReadsSettingsText (unused_by false) s said)
    → first_missing (series_keys false said) said ≡ None → factors ≡ unwrap_or said.factors [] → factor ≡ factor_by said
    → IfSome o (λ s. IfSome q (λ b. IfSome r (λ p. ArePricesRead s b (by_text p) table rests)))
    → IfSome o (λ s. IfSome q (λ b. IfSome r (λ p. IsSeriesRead s b (by_text p) table rests factors factor)))
mine_read (Some s) (Some b) (Some p) said table rests factors factor a whole is at h = mine_read_at s b
    (by_text p) said table rests factors factor a (keys_known (by_text p) s said a whole) is at h
mine_read o q r said table rests factors factor a whole is at h = tt

-- ---- slopes in its place

sloped_fails_at : (s b : List ℕ) (e : EngineFault) → KeysKnown true s → ((k : ℕ) → MineFails (sloped_texts s b k) e)
    → SeriesMineFails s b by_slopes e
sloped_fails_at s b (engine.Settings q) keys h = settings_more sloped_keys (series_keys true) (unused_by true) s q
    (sloped_known (settings_of s) keys) (h 0)
sloped_fails_at s b engine.Memory keys h = tt
sloped_fails_at s b engine.Device keys h = tt
sloped_fails_at s b e keys h = (keys, h)

-- what holds at each factor
each_factor : (o q : Option (List ℕ)) (P : List ℕ → List ℕ → ℕ → Type 0)
    → ((k : ℕ) → IfSome o (λ s. IfSome q (λ b. P s b k))) → IfSome o (λ s. IfSome q (λ b. (k : ℕ) → P s b k))
each_factor (Some s) (Some b) P h = λ k. h k
each_factor o q P h = tt

unread_by : (o q : Option (List ℕ)) (said : SettingsView) → IfSome o (λ s. ReadsSettingsText [] s said)
    → first_missing (series_keys true said) said ≡ None → (e : EngineFault)
    → IfSome o (λ s. IfSome q (λ b. (k : ℕ) → MineFails (sloped_texts s b k) e))
    → IfSome o (λ s. IfSome q (λ b. SeriesMineFails s b by_slopes e))
unread_by (Some s) (Some b) said a whole e h = sloped_fails_at s b e (keys_known by_slopes s said a whole) h
unread_by o q said a whole e h = tt

module _ (o q : Option (List ℕ)) where
  abbrev ForSloped : (List ℕ → List ℕ → Type 0) → Type 0
  ForSloped P = IfSome o (λ s. IfSome q (λ b. P s b))

  sloped_always : (P : List ℕ → Type 0) (Q : List ℕ → List ℕ → Type 0) → IfSome o P → ((s b : List ℕ) → P s → Q s b)
      → ForSloped Q
  sloped_always P Q h f = under o P (λ s. IfSome q (λ b. Q s b)) h (λ s a. always q (λ b. Q s b) (λ b. f s b a))

  pub sloped_settings_unread : (e : EngineFault) → IfSome o (λ s. SettingsReadFails [] s e)
      → ForSloped (λ s b. SeriesMineFails s b by_slopes e)
  sloped_settings_unread e h = sloped_always (λ s. SettingsReadFails [] s e) (λ s b. SeriesMineFails s b by_slopes e)
      h (λ s b f. settings_fail_at s b by_slopes e f)

  module _ (said : SettingsView) (a : IfSome o (λ s. ReadsSettingsText [] s said)) where
    pub sloped_columns_missing : (e : EngineFault) → IsMissing (series_keys true said) said e
        → ForSloped (λ s b. SeriesMineFails s b by_slopes e)
    sloped_columns_missing e m = sloped_always (λ s. ReadsSettingsText [] s said)
        (λ s b. SeriesMineFails s b by_slopes e) a (λ s b r. missing_at s b by_slopes said e r m)

    module _ (whole : first_missing (series_keys true said) said ≡ None) where
      pub sloped_factors_refused : (e : EngineFault) → (e ≡ engine.Memory) ⊎ IsMissing (Factors ∷ []) said e
          → ForSloped (λ s b. SeriesMineFails s b by_slopes e)
      sloped_factors_refused e m = sloped_always (λ s. ReadsSettingsText [] s said)
          (λ s b. SeriesMineFails s b by_slopes e) a (λ s b r. factors_refused_at s b by_slopes said e whole m)

      module _ (columns : PriceColumns) (are : columns ≡ columns_said said) where
        known_of : (s b : List ℕ) (m : BlocksView) → AreSlopedTexts s b said columns m → KeysKnown true s
        known_of s b m t = keys_known by_slopes s said t.settings_read whole

        pub sloped_blocks_unread : (e : EngineFault)
            → IfSome q (λ b. BlocksReadFails (columns_beside columns (region_columns said)) b e)
            → ForSloped (λ s b. SeriesMineFails s b by_slopes e)
        sloped_blocks_unread e h = unread_by o q said a whole e
            (each_factor o q (λ s b k. MineFails (sloped_texts s b k) e)
            (λ k. blocks_unread o q k said a (sloped_known said whole) columns are e h))

        module _ (m : BlocksView) (h : IfSome q (λ b. ReadsBlocks (columns_beside columns (region_columns said)) b m))
          where
            texts : ForSloped (λ s b. AreSlopedTexts s b said columns m)
            texts = texts_read o q 0 said a (sloped_known said whole) columns are m h

            pub sloped_prices_refused : (e : EngineFault) → ModelPricesFail columns m e
                → ForSloped (λ s b. SeriesMineFails s b by_slopes e)
            sloped_prices_refused e f = under2 o q (λ s b. AreSlopedTexts s b said columns m)
                (λ s b. SeriesMineFails s b by_slopes e) texts
                (λ s b t. sloped_fails_at s b e (known_of s b m t) (λ k. prices_refused s b said columns m t k e f))

            module _ (prices : PricesView) (is : prices ≡ first_columns columns m) (positive : NoRevenueNegative prices)
                (others : ℕ) (at : others ≡ place_beside columns) where
              abbrev placed : ℕ → BlocksView
              placed i = narrowed (column_after i said.region) m

              pub sloped_pairs_refused : (e : EngineFault)
                  → PairsSaidFail said (narrowed (column_after others said.region) m) e
                  → ForSloped (λ s b. SeriesMineFails s b by_slopes e)
              sloped_pairs_refused e f = under2 o q (λ s b. AreSlopedTexts s b said columns m)
                  (λ s b. SeriesMineFails s b by_slopes e) texts (λ s b t.
                  sloped_fails_at s b e (known_of s b m t)
                  (λ k. slopes_fail s b said columns m t prices is positive k e
                  (subst (λ i. PairsSaidFail said (placed i) e) at f)))

              pub sloped_series_read : (rests : RestsView) (factors : List ℕ) (factor : ℕ)
                  → factors ≡ unwrap_or said.factors [] → factor ≡ factor_by said
                  → (rests.blocks ≡ m.blocks) × SlopesRead said (narrowed (column_after others said.region) m)
                  × ArePairsBy (rests_said said (narrowed (column_after others said.region) m)) rests.pairs
                  → ForSloped (λ s b. IsSeriesRead s b by_slopes prices rests factors factor)
              sloped_series_read rests factors factor same reported found =
                  let F : ℕ → Type 0 = λ i. (rests.blocks ≡ m.blocks) × SlopesRead said (placed i)
                  × ArePairsBy (rests_said said (placed i)) rests.pairs in
                  let g : F (place_beside columns) = subst F at found in
                  under2 o q (λ s b. AreSlopedTexts s b said columns m)
                  (λ s b. IsSeriesRead s b by_slopes prices rests factors factor) texts (λ s b t.
                  mine_read_at s b by_slopes said prices rests factors factor t.settings_read (known_of s b m t) same
                  reported (pairs_found s b said columns m t prices is positive rests g.0 g.1 g.2))

-- ---- either

-- what is known where a text of its own is read, and where slopes stand in its place
pub listed_told : (o q r : Option (List ℕ)) (P : List ℕ → List ℕ → PrecedenceBy → Type 0)
    → IfSome o (λ s. IfSome q (λ b. IfSome r (λ p. P s b (by_text p))))
    → IfSome o (λ s. IfSome q (λ b. IfSome (option_map by_text r) (λ p. P s b p)))
listed_told (Some s) (Some b) (Some p) P h = h
listed_told o q r P h = tt
