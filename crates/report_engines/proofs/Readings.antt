-- From the parts of the reading of a mine that is reported to what was read, where the readers tell their bytes.
use Rattle.std.proofs.Common.{◌≡◌, ◌⊎◌, ℕ, ◌+◌, Bool, true, false, List, [], ◌∷◌, ◌++◌, refl, sym, ap, ◌∙◌, subst}
use Rattle.std.proofs.Common.{Option, Some, None, inl, inr, IfOk, IfSome, MatchResult, Ok, Err, Result, unwrap_or}
use Rattle.std.specs.Prelude.{option_map}
use Rattle.blocks_file.specs.Records as blocks
use Rattle.blocks_file.specs.Denotes.{BlocksView, narrowed}
use Rattle.prec_file.specs.Rests.{RestsView}
use Rattle.settings_file.specs.declared.keys.Key.TheVariants.{Tonnes, Factors, Slopes, Ways}
use Rattle.settings_file.specs.Settings.{SettingsView, settings_of, is_said, names_mill, first_missing}
use Rattle.settings_file.proofs.Known.{settings_are}
use Rattle.settings_file.proofs.MissingKeys.{none_missing, first_missing-append}
use Rattle.shells.specs.Prices.{PricesView, PricesFaultStands, NoRevenueNegative, priced_count}
use Rattle.engine_faults.specs.declared.engine_fault.EngineFault.{EngineFault}
use Rattle.engine_faults.specs.declared.engine_fault.EngineFault.TheVariants as engine
use Rattle.mine_inputs.specs.Prelude.{PrecedenceBy, by_slopes, by_text, is_sloped, price_keys, slope_keys, sloped_keys}
use Rattle.mine_inputs.specs.Prelude.{others_by, unused_by, columns_for, columns_said, column_after, price_columns}
use Rattle.mine_inputs.specs.Prelude.{place_beside, region_columns, sloped_columns, prices_and_slopes, first_columns}
use Rattle.mine_inputs.specs.Prelude.{model_in, placed_in, rests_said, table_at, table_of, ReadsBlocks, BlocksFails}
use Rattle.mine_inputs.specs.Prelude.{BlocksReadFails, ReadsSettingsText, SettingsReadFails, IsMissing, ReadsPrices}
use Rattle.mine_inputs.specs.Prelude.{ReadsPrec, PrecReadFails, ModelPricesFail, PricesReadBy, SlopesRead, ArePairsBy}
use Rattle.mine_inputs.specs.Prelude.{PairsSaidFail, ArePricesRead}
use Rattle.mine_inputs.proofs.Priced.{all_read, beside_is, first_columns_are}
use Rattle.mine_inputs.proofs.PriceKeys.{prices_and_others, prices_with_others}
use Rattle.mine_inputs.proofs.PricedAnswers.{key_missing, keys_said, prec_answer, settings_refused}
use Rattle.mine_inputs.proofs.SlopedAnswers.{regions_placed, slopes_refused, slopes_read}
use Rattle.mine_inputs.proofs.MineDevices.{always, under}
use Rattle.shell_engines.proofs.Readings.{slopes_known}
use Rattle.shell_engines.specs.Prelude.{factor_by, is_without, precedence_in, series_keys}
use Rattle.report_engines.specs.Prelude.{report_keys, report_columns, ReportBlocksRead, ReportMineFails}
use Rattle.report_engines.specs.Prelude.{report_columns_by, regions_among, report_list, IsSaid, SaidFails}
use Rattle.report_engines.specs.Prelude.{PricedModelFails, ReadsRests, RestsReadFail, IsPricedModel, IsReportRead}
use Rattle.report_engines.specs.declared.report_inputs.ReportColumns.{ReportColumns}
use Rattle.report_engines.proofs.Columns.{unfaulted, front_of, all_but}
use Rattle.report_engines.proofs.SmallSums.{priced_size}
use Rattle.check_engines.proofs.Unread.{never}

-- ---- settings

settings_fail_at : (sloped : Bool) (s : List ℕ) (e : EngineFault) → SettingsReadFails (unused_by sloped) s e
    → SaidFails sloped s e
settings_fail_at sloped s (engine.Settings q) h = settings_refused (report_keys sloped) (unused_by sloped) s q h
settings_fail_at sloped s engine.Memory h = tt
settings_fail_at sloped s engine.Device h = tt
settings_fail_at sloped s e h = absurd h

pub settings_fail : (sloped : Bool) (o : Option (List ℕ)) (e : EngineFault)
    → IfSome o (λ s. SettingsReadFails (unused_by sloped) s e) → IfSome o (λ s. SaidFails sloped s e)
settings_fail sloped None e h = tt
settings_fail sloped (Some s) e h = settings_fail_at sloped s e h

-- a key is missing
pub key_is_missing : (sloped : Bool) (o : Option (List ℕ)) (said : SettingsView) (e : EngineFault)
    → IfSome o (λ s. ReadsSettingsText (unused_by sloped) s said) → IsMissing (report_keys sloped said) said e
    → IfSome o (λ s. SaidFails sloped s e)
key_is_missing sloped None said e a m = tt
key_is_missing sloped (Some s) said e a m = subst (SaidFails sloped s) (sym m.1)
    (key_missing (report_keys sloped) (unused_by sloped) s said m.0 a m.2)

-- none of the keys of prices is missing, nor of the others
apart : (sloped : Bool) (said : SettingsView) → first_missing (report_keys sloped said) said ≡ None
    → (first_missing (price_keys said) said ≡ None)
    × (first_missing (others_by sloped (Tonnes ∷ Factors ∷ [])) said ≡ None)
apart sloped said whole = prices_and_others said (is_said said Ways) (names_mill said)
    (others_by sloped (Tonnes ∷ Factors ∷ [])) whole

pub prices_known : (sloped : Bool) (said : SettingsView) → first_missing (report_keys sloped said) said ≡ None
    → first_missing (price_keys said) said ≡ None
prices_known sloped said whole = (apart sloped said whole).0

pub others_known : (sloped : Bool) (said : SettingsView) → first_missing (report_keys sloped said) said ≡ None
    → (first_missing (Tonnes ∷ []) said ≡ None) × (first_missing (Factors ∷ []) said ≡ None)
others_known false said whole = none_missing said (Tonnes ∷ []) (Factors ∷ []) (apart false said whole).1
others_known true said whole = none_missing said (Tonnes ∷ []) (Factors ∷ [])
    (none_missing said (Slopes ∷ []) (Tonnes ∷ Factors ∷ []) (apart true said whole).1).1

sloped_known : (said : SettingsView) → first_missing (report_keys true said) said ≡ None
    → first_missing (sloped_keys said) said ≡ None
sloped_known said whole = slopes_known (Tonnes ∷ Factors ∷ []) said (apart true said whole)

-- the keys of a series are among those of a report
pub series_known : (sloped : Bool) (said : SettingsView) → first_missing (report_keys sloped said) said ≡ None
    → first_missing (series_keys sloped said) said ≡ None
series_known false said whole = prices_with_others said (is_said said Ways) (names_mill said) (Factors ∷ [])
    (prices_known false said whole) (others_known false said whole).1
series_known true said whole =
    let slopes = (none_missing said (Slopes ∷ []) (Tonnes ∷ Factors ∷ []) (apart true said whole).1).0 in
    prices_with_others said (is_said said Ways) (names_mill said) (Slopes ∷ Factors ∷ [])
    (prices_known true said whole) (first_missing-append said (Slopes ∷ []) (Factors ∷ []) slopes
    ∙ (others_known true said whole).1)

-- memory is refused: the factors are there
pub factors_refused : (sloped : Bool) (o : Option (List ℕ)) (said : SettingsView) (e : EngineFault)
    → first_missing (report_keys sloped said) said ≡ None → (e ≡ engine.Memory) ⊎ IsMissing (Factors ∷ []) said e
    → IfSome o (λ s. SaidFails sloped s e)
factors_refused sloped None said e whole m = tt
factors_refused sloped (Some s) said e whole (inl is) = subst (SaidFails sloped s) (sym is) tt
factors_refused sloped (Some s) said e whole (inr m) = absurd (never _ m.0 (others_known sloped said whole).1 m.2)

pub said_is : (sloped : Bool) (o : Option (List ℕ)) (said : SettingsView) (columns : ReportColumns) (factors : List ℕ)
    (factor : ℕ) → IfSome o (λ s. ReadsSettingsText (unused_by sloped) s said)
    → first_missing (report_keys sloped said) said ≡ None
    → columns ≡ report_columns_by said → factors ≡ unwrap_or said.factors [] → factor ≡ factor_by said
    → IfSome o (λ s. IsSaid sloped s said columns factors factor)
said_is sloped None said columns factors factor a whole c f k = tt
said_is sloped (Some s) said columns factors factor a whole c f k =
    let same = sym (settings_are s said a.1) in
    record {
      keys = keys_said (report_keys sloped) (unused_by sloped) s said a whole;
      said_is = settings_are s said a.1;
      columns_are = c ∙ ap report_columns_by same;
      factors_are = f ∙ ap (λ (v : SettingsView). unwrap_or v.factors []) same;
      factor_is = k ∙ ap factor_by same;
    }

-- ---- blocks

blocks_fail_at : (columns : ReportColumns) (text : List ℕ) (e : EngineFault)
    → BlocksReadFails (report_list columns) text e → PricedModelFails columns text e
blocks_fail_at columns text (engine.Blocks q) h = h
blocks_fail_at columns text engine.Memory h = tt
blocks_fail_at columns text engine.Device h = tt
blocks_fail_at columns text e h = absurd h

pub blocks_fail : (o : Option (List ℕ)) (columns : ReportColumns) (e : EngineFault)
    → IfSome o (λ text. BlocksReadFails (report_list columns) text e)
    → IfSome o (λ text. PricedModelFails columns text e)
blocks_fail None columns e h = tt
blocks_fail (Some text) columns e h = blocks_fail_at columns text e h

prices_fail_at : (columns : ReportColumns) (text : List ℕ) (m : BlocksView) (e : EngineFault)
    → ReadsBlocks (report_list columns) text m → ModelPricesFail columns.prices m e → PricedModelFails columns text e
prices_fail_at columns text m (engine.Prices fault) r h = (m, r, h)
prices_fail_at columns text m engine.Memory r h = tt
prices_fail_at columns text m engine.Device r h = tt
prices_fail_at columns text m e r h = absurd h

pub prices_fail : (o : Option (List ℕ)) (columns : ReportColumns) (m : BlocksView) (e : EngineFault)
    → IfSome o (λ text. ReadsBlocks (report_list columns) text m) → ModelPricesFail columns.prices m e
    → IfSome o (λ text. PricedModelFails columns text e)
prices_fail None columns m e r h = tt
prices_fail (Some text) columns m e r h = prices_fail_at columns text m e r h

-- ---- the mine

module _ (p : PrecedenceBy) (s t : List ℕ) (v : SettingsView) (columns : ReportColumns) (factors : List ℕ)
    (factor : ℕ) (said : IsSaid (is_sloped p) s v columns factors factor) where
  blocks_read : (m : BlocksView) → ReadsBlocks (report_list columns) t m → ReportBlocksRead (is_sloped p) s t
  blocks_read m r = record {
    keys = said.keys;
    within = r.0;
    read = subst
        (λ (cs : ReportColumns). blocks.blocks_fault_of (report_list cs) t ≡ None) said.columns_are r.1;
  }

  model_read : (m : BlocksView) → ReadsBlocks (report_list columns) t m
      → ReadsBlocks (report_columns (settings_of s)) t m
  model_read m r = subst (λ (cs : ReportColumns). ReadsBlocks (report_list cs) t m) said.columns_are r

  -- the first columns are those of prices
  columns_price : (m : BlocksView) → ReadsBlocks (report_list columns) t m
      → first_columns columns.prices m ≡ table_of s t
  columns_price m r = first_columns_are columns.prices (columns.tonnes ∷ columns_for columns.region) t m r.2
      ∙ ap (λ (cs : ReportColumns). table_at cs.prices t) said.columns_are

  model_fails : (e : EngineFault) → PricedModelFails columns t e → ReportMineFails s t p e
  model_fails (engine.Blocks q) h =
      (said.keys, subst (λ (cs : ReportColumns). BlocksFails (report_list cs) t q) said.columns_are h)
  model_fails (engine.Prices fault) h =
      (blocks_read h.0 h.1, subst (λ (table : PricesView). PricesFaultStands table fault) (columns_price h.0 h.1) h.2)
  model_fails engine.Memory h = tt
  model_fails engine.Device h = tt
  model_fails e h = absurd h

  module _ (m : BlocksView) (prices : PricesView) (r : ReadsBlocks (report_list columns) t m)
      (priced : IsPricedModel columns.prices m prices) where
    table : prices ≡ table_of s t
    table = priced.prices_are ∙ columns_price m r

    report_read : (rests : RestsView) → ArePricesRead s t p prices rests
        → IsReportRead s t p prices rests factors m columns.prices factor
    report_read rests a = record {
      series = record {
        mine = a;
        keys = series_known (is_sloped p) (settings_of s) said.keys.said;
        factors_are =
            said.factors_are;
        factor_is = said.factor_is;
      };
      keys = said.keys;
      blocks_are = model_read m r;
      columns_are = ap (λ (cs : ReportColumns). cs.prices) said.columns_are;
    }

-- a precedence of its own
module _ (s t p : List ℕ) (v : SettingsView) (columns : ReportColumns) (factors : List ℕ) (factor : ℕ)
    (said : IsSaid false s v columns factors factor) (m : BlocksView) (prices : PricesView)
    (r : ReadsBlocks (report_list columns) t m)
    (priced : IsPricedModel columns.prices m prices) (n : ℕ) (size : n ≡ priced_count prices)
    (positive : NoRevenueNegative prices) where
  settings_told : ReadsSettingsText slope_keys s (settings_of s)
  settings_told = (said.keys.within, said.keys.read, said.keys.used)

  columns_known : first_missing (price_keys (settings_of s)) (settings_of s) ≡ None
  columns_known = prices_known false (settings_of s) said.keys.said

  prices_read : ReadsPrices (columns_said (settings_of s)) t prices
  prices_read = record {
    within = r.0;
    read = unfaulted _ _ (front_of (price_columns (settings_of s))
        (unwrap_or (settings_of s).tonnes 0 ∷ region_columns (settings_of s))) t
        (model_read (by_text p) s t v columns factors factor said m r).1;
    is = table (by_text p) s t v columns factors factor said m prices r priced;
  }

  prec_fails : (e : EngineFault) → PrecReadFails n p e → ReportMineFails s t (by_text p) e
  prec_fails (engine.Prec q) h = (
    blocks_read (by_text p) s t v columns factors factor said m r,
    λ k. prec_answer (Some s) (Some t) (Some p)
        (settings_of s) prices n (engine.Prec q) size positive columns_known settings_told prices_read h,
  )
  prec_fails engine.Memory h = tt
  prec_fails engine.Device h = tt
  prec_fails e h = absurd h

  listed_read : (rests : RestsView) → ReadsPrec n p rests
      → IsReportRead s t (by_text p) prices rests factors m columns.prices factor
  listed_read rests h = report_read (by_text p) s t v columns factors factor said m prices r priced rests
      (all_read s t p (settings_of s) prices rests n size positive columns_known settings_told prices_read h)

-- slopes in its place
module _ (s t : List ℕ) (v : SettingsView) (columns : ReportColumns) (factors : List ℕ) (factor : ℕ)
    (said : IsSaid true s v columns factors factor) (m : BlocksView) (prices : PricesView)
    (r : ReadsBlocks (report_list columns) t m)
    (priced : IsPricedModel columns.prices m prices) (positive : NoRevenueNegative prices) where
  same : prices ≡ table_of s t
  same = table by_slopes s t v columns factors factor said m prices r priced

  chosen : sloped_columns (settings_of s) ≡ price_columns (settings_of s) ++ region_columns (settings_of s)
  chosen = beside_is (columns_said (settings_of s)) (region_columns (settings_of s))

  blocks_fine : blocks.blocks_fault_of (sloped_columns (settings_of s)) t ≡ None
  blocks_fine =
      let some = all_but (price_columns (settings_of s)) (unwrap_or (settings_of s).tonnes 0)
      (region_columns (settings_of s)) in
      subst (λ (cs : List ℕ). blocks.blocks_fault_of cs t ≡ None) (sym chosen)
      (unfaulted _ _ some t (model_read by_slopes s t v columns factors factor said m r).1)

  worths_read : PricesReadBy prices_and_slopes s t (priced_count prices)
  worths_read = record {
    columns = record {
      within = said.keys.within;
      read = said.keys.read;
      used = said.keys.used;
      said = sloped_known
          (settings_of s) said.keys.said;
    };
    within = r.0;
    read = blocks_fine;
    count = sym r.2.count ∙ sym (priced_size columns.prices m prices priced);
    revenues = subst NoRevenueNegative same positive;
  }

  place : regions_among v columns.prices m ≡ placed_in v t
  place =
      let region : columns.region ≡ v.region = ap (λ (cs : ReportColumns). cs.region)
      (said.columns_are ∙ ap report_columns_by said.said_is) in
      subst (λ (o : Option ℕ). narrowed (column_after (place_beside columns.prices + 1) o) m ≡ model_in
      (columns_for o) t) region (regions_placed columns.prices (columns.tonnes ∷ []) columns.region t m r.2)

  slopes_fail : (e : EngineFault) → PairsSaidFail v (regions_among v columns.prices m) e
      → ReportMineFails s t by_slopes e
  slopes_fail (engine.Slope fault) h = (
    blocks_read by_slopes s t v columns factors factor said m r,
    λ k. slopes_refused s t v said.said_is prices
        worths_read same (regions_among v columns.prices m) place k (engine.Slope fault) h,
  )
  slopes_fail engine.Memory h = tt
  slopes_fail e h = absurd h

  sloped_read : (rests : RestsView) → (rests.blocks ≡ m.blocks) × SlopesRead v (regions_among v columns.prices m)
      × ArePairsBy (rests_said v (regions_among v columns.prices m)) rests.pairs
      → IsReportRead s t by_slopes prices rests factors m columns.prices factor
  sloped_read rests h = report_read by_slopes s t v columns factors factor said m prices r priced rests
      (slopes_read s t v said.said_is prices worths_read same (regions_among v columns.prices m) place rests
      (priced_size columns.prices m prices priced ∙ sym h.0) h.1 h.2)

-- ---- readers that tell their bytes

said_fails_at : (s t : List ℕ) (p : PrecedenceBy) (e : EngineFault) → SaidFails (is_sloped p) s e
    → ReportMineFails s t p e
said_fails_at s t p (engine.Settings q) h = h
said_fails_at s t p engine.Memory h = tt
said_fails_at s t p engine.Device h = tt
said_fails_at s t p e h = absurd h

pub text_read : (o : Option (List ℕ)) (P : PrecedenceBy → Type 0) → IfSome o (λ x. P (by_text x))
    → IfSome (option_map by_text o) P
text_read None P h = tt
text_read (Some x) P h = h

text_told : (o : Option (List ℕ)) (P : Bool → Type 0) (Q : PrecedenceBy → Type 0) → P false
    → ((p : PrecedenceBy) → P (is_sloped p) → Q p) → IfSome (option_map by_text o) Q
text_told None P Q h f = tt
text_told (Some x) P Q h f = f (by_text x) h

both_told : (r : Option PrecedenceBy) (P R Q : PrecedenceBy → Type 0) → IfSome r P → IfSome r R
    → ((p : PrecedenceBy) → P p → R p → Q p) → IfSome r Q
both_told None P R Q h g f = tt
both_told (Some p) P R Q h g f = f p h g

-- of which kind the precedence is that a device may tell
pub kind_told : {D : Type 0} (d : Option D) (remaining : D → Option (List ℕ)) (P : Bool → Type 0)
    (Q : PrecedenceBy → Type 0) → P (is_without d) → ((p : PrecedenceBy) → P (is_sloped p) → Q p)
    → IfSome (precedence_in d remaining) Q
kind_told None remaining P Q h f = f by_slopes h
kind_told (Some d) remaining P Q h f = text_told (remaining d) P Q h f

-- what follows for the texts from what holds of what their readers tell
module _ {D : Type 0} (o q : Option (List ℕ)) (d : Option D) (remaining : D → Option (List ℕ)) where
  abbrev ForTold : (List ℕ → List ℕ → PrecedenceBy → Type 0) → Type 0
  ForTold P = IfSome o (λ s. IfSome q (λ b. IfSome (precedence_in d remaining) (λ p. P s b p)))

  pub said_fails : (e : EngineFault) → IfSome o (λ s. SaidFails (is_without d) s e)
      → ForTold (λ s b p. ReportMineFails s b p e)
  said_fails e h = under o (λ s. SaidFails (is_without d) s e)
      (λ s. IfSome q (λ b. IfSome (precedence_in d remaining) (λ p. ReportMineFails s b p e))) h (λ s f.
      always q (λ b. IfSome (precedence_in d remaining) (λ p. ReportMineFails s b p e))
      (λ b. kind_told d remaining (λ k. SaidFails k s e) (λ p. ReportMineFails s b p e) f
      (λ p g. said_fails_at s b p e g)))

  module _ (v : SettingsView) (columns : ReportColumns) (factors : List ℕ) (factor : ℕ)
      (a : IfSome o (λ s. IsSaid (is_without d) s v columns factors factor)) where
    pub model_unread : (e : EngineFault) → IfSome q (λ b. PricedModelFails columns b e)
        → ForTold (λ s b p. ReportMineFails s b p e)
    model_unread e h = under o (λ s. IsSaid (is_without d) s v columns factors factor)
        (λ s. IfSome q (λ b. IfSome (precedence_in d remaining) (λ p. ReportMineFails s b p e))) a (λ s g.
        under q (λ b. PricedModelFails columns b e)
        (λ b. IfSome (precedence_in d remaining) (λ p. ReportMineFails s b p e)) h (λ b f.
        kind_told d remaining (λ k. IsSaid k s v columns factors factor) (λ p. ReportMineFails s b p e) g
        (λ p i. model_fails p s b v columns factors factor i e f)))

    module _ (m : BlocksView) (prices : PricesView) (positive : NoRevenueNegative prices)
        (priced : IsPricedModel columns.prices m prices) (b : IfSome q (λ t. ReadsBlocks (report_list columns) t m))
      where
        -- what follows where the readers tell their bytes from what was read of the settings, of the blocks and of who
        -- rests on whom
        told : (P : PrecedenceBy → Type 0) (Q : List ℕ → List ℕ → PrecedenceBy → Type 0)
            → IfSome (precedence_in d remaining) P
            → ((s t : List ℕ) (p : PrecedenceBy) → IsSaid (is_sloped p) s v columns factors factor
            → ReadsBlocks (report_list columns) t m → P p → Q s t p) → ForTold Q
        told P Q h f = under o (λ s. IsSaid (is_without d) s v columns factors factor)
            (λ s. IfSome q (λ t. IfSome (precedence_in d remaining) (λ p. Q s t p))) a (λ s g.
            under q (λ t. ReadsBlocks (report_list columns) t m)
            (λ t. IfSome (precedence_in d remaining) (λ p. Q s t p)) b (λ t r.
            both_told (precedence_in d remaining) (λ p. IsSaid (is_sloped p) s v columns factors factor) P (λ p. Q s t p)
            (kind_told d remaining (λ k. IsSaid k s v columns factors factor)
            (λ p. IsSaid (is_sloped p) s v columns factors factor) g (λ p i. i)) h (λ p i j. f s t p i r j)))

        rests_fail : (s t : List ℕ) (p : PrecedenceBy) (e : EngineFault)
            → IsSaid (is_sloped p) s v columns factors factor → ReadsBlocks (report_list columns) t m
            → RestsReadFail p v columns.prices m (priced_count prices) e → ReportMineFails s t p e
        rests_fail s t (by_text p) e i r j = prec_fails s t p v columns factors factor i m prices r priced
            (priced_count prices) refl positive e j
        rests_fail s t by_slopes e i r j = slopes_fail s t v columns factors factor i m prices r priced positive e j

        rests_read : (s t : List ℕ) (p : PrecedenceBy) (rests : RestsView)
            → IsSaid (is_sloped p) s v columns factors factor → ReadsBlocks (report_list columns) t m
            → ReadsRests p v columns.prices m (priced_count prices) rests
            → IsReportRead s t p prices rests factors m columns.prices factor
        rests_read s t (by_text p) rests i r j = listed_read s t p v columns factors factor i m prices r priced
            (priced_count prices) refl positive rests j
        rests_read s t by_slopes rests i r j = sloped_read s t v columns factors factor i m prices r priced positive
            rests j

        pub rests_unread : (e : EngineFault)
            → IfSome (precedence_in d remaining) (λ p. RestsReadFail p v columns.prices m (priced_count prices) e)
            → ForTold (λ s t p. ReportMineFails s t p e)
        rests_unread e h = told (λ p. RestsReadFail p v columns.prices m (priced_count prices) e)
            (λ s t p. ReportMineFails s t p e) h (λ s t p i r j. rests_fail s t p e i r j)

        pub all_are_read : (rests : RestsView)
            → IfSome (precedence_in d remaining) (λ p. ReadsRests p v columns.prices m (priced_count prices) rests)
            → ForTold (λ s t p. IsReportRead s t p prices rests factors m columns.prices factor)
        all_are_read rests h = told (λ p. ReadsRests p v columns.prices m (priced_count prices) rests)
            (λ s t p. IsReportRead s t p prices rests factors m columns.prices factor) h
            (λ s t p i r j. rests_read s t p rests i r j)

-- what is read is as large as something else, where both are so large
pub sized : {T E : Type 0} (r : Result T E) (size : T → ℕ) (P P' : T → Type 0) (Q : E → Type 0) (n m : ℕ) → m ≡ n
    → MatchResult r (λ v. (size v ≡ n) × P v × P' v) Q → IfOk r (λ v. size v ≡ m)
sized (Ok v) size P P' Q n m s h = h.0 ∙ sym s
sized (Err e) size P P' Q n m s h = tt
