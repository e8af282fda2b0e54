-- From what is read of settings that list slopes, and of blocks, to the mine of the two.
use Rattle.fixed_worth.proofs.Common.{◌≡◌, ℕ, ◌+◌, ◌<◌, pos, List, [], ◌∷◌, ◌++◌, length, get_or, get_or_push}
use Rattle.fixed_worth.proofs.Common.{length-append, append_assoc, map, range_with_len, refl, sym, ap, ◌∙◌, subst}
use Rattle.fixed_worth.proofs.Common.{arith, Option, Some, None, IfSome, length-map-range_with_len}
use Rattle.fixed_worth.proofs.Common.{get_or-map-range_with_len}
use Rattle.std.proofs.lemmas.List.{length_push}
use Rattle.blocks_file.specs.Records as blocks
use Rattle.blocks_file.specs.Denotes.{BlocksView, DenotesModel, narrowed, origin}
use Rattle.blocks_file.specs.declared.place.Place.{Place}
use Rattle.blocks_file.proofs.Slots.{read_again}
use Rattle.closure_net.proofs.Views.{same_at_default}
use Rattle.prec_file.specs.Rests.{RestsView}
use Rattle.settings_file.specs.Settings.{SettingsView, settings_of, first_missing}
use Rattle.settings_file.proofs.Known.{settings_are}
use Rattle.shells.specs.Prices.{PricesView, PricesFaultStands, NoRevenueNegative, priced_count, price_of, way_count}
use Rattle.shells.specs.Prices.{worth_by_way}
use Rattle.engine_faults.specs.declared.engine_fault.EngineFault.{EngineFault}
use Rattle.engine_faults.specs.declared.engine_fault.EngineFault.TheVariants as engine
use Rattle.mine_inputs.specs.declared.columns_of_prices.PriceColumns.{PriceColumns}
use Rattle.mine_inputs.specs.declared.worths.Worths.TheVariants.{Prices}
use Rattle.mine_inputs.specs.Prelude.{most_way_at, AreSlopedTexts, ArePairsBy, ArePricesRead, BlocksFails}
use Rattle.mine_inputs.specs.Prelude.{BlocksReadFails, ReadsBlocks, IsMineRead, IsMissing, KeysSaid, MineFails}
use Rattle.mine_inputs.specs.Prelude.{ModelPricesFail, PairsSaidFail, PricesReadBy, ReadsSettingsText}
use Rattle.mine_inputs.specs.Prelude.{SettingsReadFails, SlopesFail, SlopesRead, by_slopes, cells, column_after}
use Rattle.mine_inputs.specs.Prelude.{column_list, columns_beside, columns_for, columns_said, first_columns, model_in}
use Rattle.mine_inputs.specs.Prelude.{place_beside, placed_in, prices_and_slopes, region_columns, rests_said}
use Rattle.mine_inputs.specs.Prelude.{sloped_columns, sloped_keys, sloped_texts, table_at, table_by, table_of}
use Rattle.mine_inputs.proofs.MineDevices.{always, under}
use Rattle.mine_inputs.proofs.Priced.{beside_is, column_is, first_columns_are, first_size, price_places, worths_priced}
use Rattle.mine_inputs.proofs.PricedAnswers.{key_missing, keys_said, settings_refused}

-- ---- the blocks of a text

pub places_are : (chosen text : List ℕ) (m : BlocksView) → DenotesModel chosen text m
    → m.places ≡ map (λ b. blocks.place_of_record (blocks.record_among (blocks.lines_in text) b))
    (range_with_len 0 (blocks.record_count_of text))
places_are chosen text m d =
    let n = blocks.record_count_of text in
    let place : ℕ → Place = λ b. blocks.place_of_record (blocks.record_among (blocks.lines_in text) b) in
    let size = length-map-range_with_len place 0 n in
    let known = d.all_places in
    let count = d.count in
    same_at_default origin m.places (map place (range_with_len 0 n)) (known ∙ count ∙ sym size) (λ b l.
    let below : b < m.blocks = omega (arith, l, known) in
    let inside : b < n = omega (arith, below, count) in
    d.place b below ∙ sym (get_or-map-range_with_len place 0 n b b origin inside (omega arith)))

pub column_of_text : (chosen text : List ℕ) (m : BlocksView) (i : ℕ) → DenotesModel chosen text m → i < length chosen
    → get_or m.columns i [] ≡ cells text (get_or chosen i 0)
column_of_text chosen text m i d h =
    sym (read_again (get_or m.columns i []) m.blocks (λ b. get_or (get_or m.columns i []) b (pos 0))
    (d.all_values i h) (λ b l. refl)) ∙ column_is chosen text m i d h

-- the column that stands after all others
column_last : (xs : List ℕ) (other : ℕ) (text : List ℕ) (m : BlocksView) → DenotesModel (xs ++ (other ∷ [])) text m
    → get_or m.columns (length xs) [] ≡ cells text other
column_last xs other text m d =
    column_of_text (xs ++ (other ∷ [])) text m (length xs) d (omega (arith, length_push xs other))
    ∙ ap (cells text) (get_or_push xs other 0 (length xs) refl)

-- where that column alone is left of a model, the blocks are those of the text with it
placed_is : (xs : List ℕ) (region : Option ℕ) (text : List ℕ) (m : BlocksView)
    → DenotesModel (xs ++ columns_for region) text m → narrowed (column_after (length xs) region) m ≡ model_in
    (columns_for region) text
placed_is xs None text m d =
    let count = d.count in
    let places = places_are (xs ++ []) text m d in
    λ i. record { blocks = count i; places = places i; columns = [] }
placed_is xs (Some other) text m d =
    let count = d.count in
    let places = places_are (xs ++ (other ∷ [])) text m d in
    let column = column_last xs other text m d in
    λ i. record { blocks = count i; places = places i; columns = column i ∷ [] }

-- where the column of regions is read after those of prices and others, as many as these
pub regions_placed : (columns : PriceColumns) (others : List ℕ) (region : Option ℕ) (text : List ℕ) (m : BlocksView)
    → DenotesModel (columns_beside columns (others ++ columns_for region)) text m
    → narrowed (column_after (place_beside columns + length others) region) m ≡ model_in (columns_for region) text
regions_placed columns others region text m d =
    let xs = column_list columns ++ others in
    let at : length xs ≡ place_beside columns + length others = length-append (column_list columns) others
    ∙ ap (λ n. n + length others) (price_places columns) in
    let chosen : columns_beside columns (others ++ columns_for region) ≡ xs ++ columns_for region = beside_is columns
    (others ++ columns_for region) ∙ sym (append_assoc (column_list columns) others (columns_for region)) in
    ap (λ i. narrowed (column_after i region) m) (sym at)
    ∙ placed_is xs region text m (subst (λ (cs : List ℕ). DenotesModel cs text m) chosen d)

-- that column is one of those that were read
pub regions_within : (columns : PriceColumns) (others : List ℕ) (region : Option ℕ) (i n : ℕ)
    → i ≡ place_beside columns + length others → n ≡ length (columns_beside columns (others ++ columns_for region))
    → IfSome (column_after i region) (λ j. j < n)
regions_within columns others None i n at size = tt
regions_within columns others (Some other) i n at size =
    let all = ap length (beside_is columns (others ++ (other ∷ []))) in
    let front = length-append (column_list columns) (others ++ (other ∷ [])) in
    omega (arith, at, size, all, front, length_push others other, price_places columns)

-- the prices are those of the text, whatever is read beside them
pub table_beside : (columns : PriceColumns) (others text : List ℕ) (m : BlocksView)
    → DenotesModel (columns_beside columns others) text m → first_columns columns m ≡ table_at columns text
table_beside columns others text m d = first_columns_are columns others text m
    (subst (λ (cs : List ℕ). DenotesModel cs text m) (beside_is columns others) d)

-- ---- prices that were read, and the slopes of settings

module _ (s b : List ℕ) (said : SettingsView) (known : settings_of s ≡ said) (prices : PricesView)
    (read : PricesReadBy prices_and_slopes s b (priced_count prices)) (same : prices ≡ table_of s b)
    (placed : BlocksView) (place : placed ≡ placed_in said b) where
  -- the slopes give no pairs
  pub slopes_refused : (k : ℕ) (e : EngineFault) → PairsSaidFail said placed e → MineFails (sloped_texts s b k) e
  slopes_refused k (engine.Slope fault) h = (
    priced_count prices,
    read,
    subst (λ (v : SettingsView). SlopesFail v (placed_in v b) fault) (sym known)
        (subst (λ (x : BlocksView). SlopesFail said x fault) place h),
  )
  slopes_refused k engine.Memory h = tt
  slopes_refused k _ h = absurd h

  -- they give them
  pub slopes_read : (rests : RestsView) → priced_count prices ≡ rests.blocks → SlopesRead said placed
      → ArePairsBy (rests_said said placed) rests.pairs → ArePricesRead s b by_slopes prices rests
  slopes_read rests as_many right pairs =
      let given : SlopesRead (settings_of s) (placed_in (settings_of s) b) = subst
      (λ (v : SettingsView). SlopesRead v (placed_in v b)) (sym known)
      (subst (λ (x : BlocksView). SlopesRead said x) place right) in
      let listed : ArePairsBy (rests_said (settings_of s) (placed_in (settings_of s) b)) rests.pairs =
      subst (λ (v : SettingsView). ArePairsBy (rests_said v (placed_in v b)) rests.pairs) (sym known)
      (subst (λ (x : BlocksView). ArePairsBy (rests_said said x) rests.pairs) place pairs) in
      let worths : PricesReadBy prices_and_slopes s b rests.blocks = subst (PricesReadBy prices_and_slopes s b)
      as_many read in
      record {
        mine = λ factor. record { worths_read = worths; rests_read = given };
        table = same;
        size = as_many;
        pairs = λ factor. listed;
      }

-- ---- settings and blocks that were read

module _ (s b : List ℕ) (said : SettingsView) (columns : PriceColumns) (m : BlocksView)
    (t : AreSlopedTexts s b said columns m) where
  pub known : settings_of s ≡ said
  known = settings_are s said t.settings_read.1

  keys : KeysSaid sloped_keys [] s
  keys = keys_said sloped_keys [] s said t.settings_read t.whole

  chosen : columns_beside columns (region_columns said) ≡ sloped_columns (settings_of s)
  chosen = ap (λ (c : PriceColumns). columns_beside c (region_columns said)) t.are ∙ ap sloped_columns (sym known)

  blocks_fine : blocks.blocks_fault_of (sloped_columns (settings_of s)) b ≡ None
  blocks_fine = subst (λ (c : List ℕ). blocks.blocks_fault_of c b ≡ None) chosen t.blocks_read.1

  table : first_columns columns m ≡ table_of s b
  table = table_beside columns (region_columns said) b m t.blocks_read.2
      ∙ ap (λ (c : PriceColumns). table_at c b) t.are ∙ ap (λ (v : SettingsView). table_by v b) (sym known)

  -- no prices are made of the columns
  pub prices_refused : (k : ℕ) (e : EngineFault) → ModelPricesFail columns m e → MineFails (sloped_texts s b k) e
  prices_refused k (engine.Prices fault) h = record {
    columns = keys;
    within = t.blocks_read.0;
    read = blocks_fine;
    stands = subst
        (λ (p : PricesView). PricesFaultStands p fault) table h;
  }
  prices_refused k engine.Memory h = tt
  prices_refused k _ h = absurd h

  module _ (prices : PricesView) (is : prices ≡ first_columns columns m) (positive : NoRevenueNegative prices) where
    pub same : prices ≡ table_of s b
    same = is ∙ table

    pub size : priced_count prices ≡ m.blocks
    size = first_size columns m prices is

    worths_read : PricesReadBy prices_and_slopes s b (priced_count prices)
    worths_read = record {
      columns = keys;
      within = t.blocks_read.0;
      read = blocks_fine;
      count = sym
          t.blocks_read.2.count ∙ sym size;
      revenues = subst NoRevenueNegative same positive;
    }

    place : narrowed (column_after (place_beside columns) said.region) m ≡ placed_in said b
    place = ap (λ i. narrowed (column_after i said.region) m) (omega arith)
        ∙ regions_placed columns [] said.region b m t.blocks_read.2

    pub slopes_fail : (k : ℕ) (e : EngineFault)
        → PairsSaidFail said (narrowed (column_after (place_beside columns) said.region) m) e
        → MineFails (sloped_texts s b k) e
    slopes_fail k e h = slopes_refused s b said known prices worths_read same
        (narrowed (column_after (place_beside columns) said.region) m) place k e h

    pub pairs_found : (rests : RestsView) → rests.blocks ≡ m.blocks
        → SlopesRead said (narrowed (column_after (place_beside columns) said.region) m)
        → ArePairsBy (rests_said said (narrowed (column_after (place_beside columns) said.region) m)) rests.pairs
        → ArePricesRead s b by_slopes prices rests
    pairs_found rests count right pairs = slopes_read s b said known prices worths_read same
        (narrowed (column_after (place_beside columns) said.region) m) place rests (size ∙ sym count) right pairs

    pub sloped_read : (k : ℕ) (rests : RestsView) → ArePricesRead s b by_slopes prices rests
        → IsMineRead (sloped_texts s b k) k (Prices prices) rests
    sloped_read k rests a = (
      worths_priced s b by_slopes prices rests k a,
      ap (λ (p : PricesView). price_of p k) same,
      record {
        size = a.size;
        count = ap way_count same;
        each = λ way c h. ap (λ (t : PricesView). worth_by_way t k way c) same;
        most = λ c h. ap (λ (t : PricesView). most_way_at t k c) same;
      },
    )

-- ---- their readers, where they tell their bytes

module _ (o q : Option (List ℕ)) (k : ℕ) where
  abbrev pub ForSloped : (List ℕ → List ℕ → Type 0) → Type 0
  ForSloped P = IfSome o (λ s. IfSome q (λ b. P s b))

  settings_fail : (s b : List ℕ) (e : EngineFault) → SettingsReadFails [] s e → MineFails (sloped_texts s b k) e
  settings_fail s b (engine.Settings p) h = settings_refused sloped_keys [] s p h
  settings_fail s b engine.Memory h = tt
  settings_fail s b engine.Device h = tt
  settings_fail s b _ h = absurd h

  pub settings_unread : (e : EngineFault) → IfSome o (λ s. SettingsReadFails [] s e)
      → ForSloped (λ s b. MineFails (sloped_texts s b k) e)
  settings_unread e h = under o (λ s. SettingsReadFails [] s e)
      (λ s. IfSome q (λ b. MineFails (sloped_texts s b k) e)) h
      (λ s f. always q (λ b. MineFails (sloped_texts s b k) e) (λ b. settings_fail s b e f))

  module _ (said : SettingsView) (a : IfSome o (λ s. ReadsSettingsText [] s said)) where
    key_lacking : (s b : List ℕ) (e : EngineFault) → ReadsSettingsText [] s said → IsMissing (sloped_keys said) said e
        → MineFails (sloped_texts s b k) e
    key_lacking s b e r h = subst (λ (f : EngineFault). MineFails (sloped_texts s b k) f) (sym h.1)
        (key_missing sloped_keys [] s said h.0 r h.2)

    pub key_unsaid : (e : EngineFault) → IsMissing (sloped_keys said) said e
        → ForSloped (λ s b. MineFails (sloped_texts s b k) e)
    key_unsaid e h = under o (λ s. ReadsSettingsText [] s said)
        (λ s. IfSome q (λ b. MineFails (sloped_texts s b k) e)) a
        (λ s r. always q (λ b. MineFails (sloped_texts s b k) e) (λ b. key_lacking s b e r h))

    module _ (whole : first_missing (sloped_keys said) said ≡ None) (columns : PriceColumns)
        (are : columns ≡ columns_said said) where
      blocks_fail : (s b : List ℕ) (e : EngineFault) → ReadsSettingsText [] s said
          → BlocksReadFails (columns_beside columns (region_columns said)) b e → MineFails (sloped_texts s b k) e
      blocks_fail s b (engine.Blocks p) r h =
          let known = settings_are s said r.1 in
          let same : columns_beside columns (region_columns said) ≡ sloped_columns (settings_of s) = ap
          (λ (c : PriceColumns). columns_beside c (region_columns said)) are ∙ ap sloped_columns (sym known) in
          (keys_said sloped_keys [] s said r whole, subst (λ (c : List ℕ). BlocksFails c b p) same h)
      blocks_fail s b engine.Memory r h = tt
      blocks_fail s b engine.Device r h = tt
      blocks_fail s b _ r h = absurd h

      pub blocks_unread : (e : EngineFault)
          → IfSome q (λ b. BlocksReadFails (columns_beside columns (region_columns said)) b e)
          → ForSloped (λ s b. MineFails (sloped_texts s b k) e)
      blocks_unread e h = under o (λ s. ReadsSettingsText [] s said)
          (λ s. IfSome q (λ b. MineFails (sloped_texts s b k) e)) a (λ s r.
          under q (λ b. BlocksReadFails (columns_beside columns (region_columns said)) b e)
          (λ b. MineFails (sloped_texts s b k) e) h (λ b f. blocks_fail s b e r f))

      pub texts_read : (m : BlocksView)
          → IfSome q (λ b. ReadsBlocks (columns_beside columns (region_columns said)) b m)
          → ForSloped (λ s b. AreSlopedTexts s b said columns m)
      texts_read m h = under o (λ s. ReadsSettingsText [] s said)
          (λ s. IfSome q (λ b. AreSlopedTexts s b said columns m)) a (λ s r.
          under q (λ b. ReadsBlocks (columns_beside columns (region_columns said)) b m)
          (λ b. AreSlopedTexts s b said columns m) h
          (λ b f. record { settings_read = r; whole = whole; are = are; blocks_read = f }))
