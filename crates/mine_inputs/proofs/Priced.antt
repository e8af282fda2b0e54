-- From prices that were read to the worths of the mine at a factor.
use Rattle.fixed_worth.proofs.Common.{◌≡◌, ℕ, zero, suc, ◌+◌, ◌*◌, ◌<◌, pos, List, [], ◌∷◌, ◌++◌, length, map, get_or}
use Rattle.fixed_worth.proofs.Common.{refl, sym, ap, ◌∙◌, subst, arith, Option, Some, None, Result, Ok, Err, IfSome}
use Rattle.fixed_worth.proofs.Common.{MatchResult, append-nil, append_assoc, length-append, length-map, get_or-map}
use Rattle.fixed_worth.proofs.Common.{length-map-range_with_len, get_or-map-range_with_len, map-range_with_len_more}
use Rattle.fixed_worth.proofs.Common.{range_with_len}
use Rattle.blocks_file.specs.Records as blocks
use Rattle.blocks_file.specs.Denotes.{BlocksView, DenotesModel}
use Rattle.prec_file.specs.Rests.{RestsView}
use Rattle.closure_net.proofs.Views.{same_at_default}
use Rattle.settings_file.specs.declared.keys.Key.{Key}
use Rattle.settings_file.specs.declared.settings_fault.SettingsFault.{SettingsFault}
use Rattle.settings_file.specs.declared.settings_fault.SettingsFault.TheVariants as settings_fault
use Rattle.settings_file.specs.Settings.{SettingsView, ReadsSettings, first_missing}
use Rattle.settings_file.specs.declared.ways.WayColumns.{WayColumns}
use Rattle.settings_file.proofs.Known.{settings_are, settings_read}
use Rattle.prec_file.specs.Records as prec
use Rattle.shells.specs.Prices.{PricesView, WayView, plain_prices, treated_prices, NoRevenueNegative, PricesFaultStands}
use Rattle.shells.specs.Prices.{priced_count, worth_at, worths_at}
use Rattle.mine_inputs.specs.Prelude.{PrecedenceBy, by_slopes, by_text, texts_by, worth_by_texts, ReadsBlocks}
use Rattle.mine_inputs.specs.Prelude.{ReadsSettingsText, SettingsReadFails, ReadsPrices, ReadsPrec, PricesReadFail}
use Rattle.mine_inputs.specs.Prelude.{ModelPricesFail, cell, cells, values_of, column_list, columns_beside}
use Rattle.mine_inputs.specs.Prelude.{columns_said, first_columns, first_unused, place_beside, table_at, way_cells}
use Rattle.mine_inputs.specs.Prelude.{way_from, way_list, ways_from, table_by, table_of, price_keys, slope_keys}
use Rattle.mine_inputs.specs.Prelude.{price_columns, ColumnsKnown, IsWithinLimit, AreRead, ArePricesRead}
use Rattle.engine_faults.specs.Prelude.{of_settings}
use Rattle.mine_inputs.proofs.Listed.{by_listed}
use Rattle.engine_faults.specs.declared.engine_fault.EngineFault.{EngineFault}
use Rattle.engine_faults.specs.declared.engine_fault.EngineFault.TheVariants as engine
use Rattle.engine_faults.specs.declared.engine_fault.Problem.TheVariants as problem
use Rattle.mine_inputs.specs.declared.columns_of_prices.PriceColumns.TheVariants.{Plain, Treated}
use Rattle.mine_inputs.specs.declared.columns_of_prices.PriceColumns.{PriceColumns}

-- what a block is worth is said by the prices, whatever says who rests on whom
pub worth_by_prices : (settings text : List ℕ) (precedence : PrecedenceBy) (k b : ℕ)
    → worth_by_texts (texts_by settings text precedence k) b ≡ worth_at (table_of settings text) k b
worth_by_prices settings text (by_text precedence) k b = refl
worth_by_prices settings text by_slopes k b = refl

-- the worths at a factor are those of the mine
pub worths_priced : (settings text : List ℕ) (precedence : PrecedenceBy) (table : PricesView) (rests : RestsView)
    (k : ℕ) → ArePricesRead settings text precedence table rests
    → AreRead (texts_by settings text precedence k) (worths_at table k) rests
worths_priced settings text precedence table rests k a = record {
  mine = a.mine k;
  worths = record {
    size = length-map-range_with_len (worth_at table k) 0 (priced_count table) ∙ a.size;
    each = λ b h.
        let l : b < priced_count table = omega (arith, h, a.size) in
        get_or-map-range_with_len (worth_at table k) 0 (priced_count table) b b (pos 0) l (omega arith)
        ∙ ap (λ (t : PricesView). worth_at t k b) a.table ∙ sym (worth_by_prices settings text precedence k b);
  };
  pairs = a.pairs k;
}

-- a chosen column of a model is that of its text
pub column_is : (chosen text : List ℕ) (m : BlocksView) (i : ℕ) → DenotesModel chosen text m → i < length chosen
    → values_of m i ≡ cells text (get_or chosen i 0)
column_is chosen text m i d h =
    let column = get_or m.columns i [] in
    let size = length-map-range_with_len (λ b. get_or column b (pos 0)) 0 m.blocks in
    let most = length-map-range_with_len (cell text (get_or chosen i 0)) 0 (blocks.record_count_of text) in
    same_at_default (pos 0) (values_of m i) (cells text (get_or chosen i 0)) (size ∙ d.count ∙ sym most) (λ b l.
    let below : b < m.blocks = omega (arith, l, size) in
    let inside : b < blocks.record_count_of text = omega (arith, below, d.count) in
    get_or-map-range_with_len (λ c. get_or column c (pos 0)) 0 m.blocks b b (pos 0) below (omega arith)
    ∙ d.value i b h below
    ∙ sym (get_or-map-range_with_len (cell text (get_or chosen i 0)) 0 (blocks.record_count_of text) b b
    (pos 0) inside (omega arith)))

-- ---- the columns of ways

way_none : WayColumns
way_none = record { revenue = 0; processing = 0 }

-- each way has two columns
pub way_list-length : (ways : List WayColumns) → length (way_list ways) ≡ 2 * length ways
way_list-length [] = refl
way_list-length (way ∷ ways) = let rest = way_list-length ways in omega (arith, rest)

revenue_place : (ways : List WayColumns) (others : List ℕ) (i : ℕ) → i < length ways
    → get_or (way_list ways ++ others) (2 * i) 0 ≡ (get_or ways i way_none).revenue
revenue_place [] others i h = absurd (omega (arith, h))
revenue_place (way ∷ ways) others zero h = refl
revenue_place (way ∷ ways) others (suc i) h =
    let e : 2 * suc i ≡ suc (suc (2 * i)) = omega arith in
    ap (λ j. get_or (way.revenue ∷ way.processing ∷ (way_list ways ++ others)) j 0) e
    ∙ revenue_place ways others i (omega (arith, h))

processing_place : (ways : List WayColumns) (others : List ℕ) (i : ℕ) → i < length ways
    → get_or (way_list ways ++ others) (2 * i + 1) 0 ≡ (get_or ways i way_none).processing
processing_place [] others i h = absurd (omega (arith, h))
processing_place (way ∷ ways) others zero h = refl
processing_place (way ∷ ways) others (suc i) h =
    let e : 2 * suc i + 1 ≡ suc (suc (2 * i + 1)) = omega arith in
    ap (λ j. get_or (way.revenue ∷ way.processing ∷ (way_list ways ++ others)) j 0) e
    ∙ processing_place ways others i (omega (arith, h))

mining_place : (ways : List WayColumns) (mining : ℕ) (others : List ℕ)
    → get_or (way_list ways ++ (mining ∷ others)) (2 * length ways) 0 ≡ mining
mining_place [] mining others = refl
mining_place (way ∷ ways) mining others =
    let e : 2 * suc (length ways) ≡ suc (suc (2 * length ways)) = omega arith in
    ap (λ j. get_or (way.revenue ∷ way.processing ∷ (way_list ways ++ (mining ∷ others))) j 0) e
    ∙ mining_place ways mining others

-- as many columns are chosen as there are columns of prices
pub price_places : (columns : PriceColumns) → length (column_list columns) ≡ place_beside columns
price_places (Plain revenue cost) = refl
price_places (Treated ways mining) = length-append (way_list ways) (mining ∷ [])
    ∙ ap (λ n. n + 1) (way_list-length ways)

-- the others stand after the columns of prices
pub beside_is : (columns : PriceColumns) (others : List ℕ) → columns_beside columns others ≡ column_list columns
    ++ others
beside_is columns [] = sym (append-nil (column_list columns))
beside_is columns (x ∷ xs) = refl

pub beside_size : (columns : PriceColumns) (others : List ℕ)
    → length (columns_beside columns others) ≡ place_beside columns + length others
beside_size columns others = ap length (beside_is columns others) ∙ length-append (column_list columns) others
    ∙ ap (λ n. n + length others) (price_places columns)

-- ---- the prices of a model

-- one more is made of the columns of a model
pub one_more : {V : Type 0} (f : ℕ → V) (b : ℕ) (xs ys : List V) (y : V) → xs ≡ map f (range_with_len 0 b)
    → ys ≡ xs ++ y ∷ [] → y ≡ f b → ys ≡ map f (range_with_len 0 (b + 1))
one_more f b xs ys y so is e = is ∙ ap (λ l. l ++ y ∷ []) so ∙ ap (λ v. map f (range_with_len 0 b) ++ v ∷ []) e
    ∙ sym (map-range_with_len_more f 0 b b (omega arith))

-- the blocks are those of the text
priced_first : (columns : PriceColumns) (m : BlocksView) → priced_count (first_columns columns m) ≡ m.blocks
priced_first (Plain revenue cost) m = length-map-range_with_len (λ c. get_or (get_or m.columns 0 []) c (pos 0)) 0
    m.blocks
priced_first (Treated ways mining) m = length-map-range_with_len
    (λ c. get_or (get_or m.columns (2 * length ways) []) c (pos 0)) 0 m.blocks

-- as many blocks are priced as a model has
pub first_size : (columns : PriceColumns) (m : BlocksView) (prices : PricesView) → prices ≡ first_columns columns m
    → priced_count prices ≡ m.blocks
first_size columns m prices is = ap priced_count is ∙ priced_first columns m

-- as many blocks are priced as a text has
pub priced_at : (columns : PriceColumns) (text : List ℕ)
    → priced_count (table_at columns text) ≡ blocks.record_count_of text
priced_at (Plain revenue cost) text = length-map-range_with_len (cell text revenue) 0 (blocks.record_count_of text)
priced_at (Treated ways mining) text = length-map-range_with_len (cell text mining) 0 (blocks.record_count_of text)

way_zero : WayView
way_zero = record { revenue = []; processing = [] }

-- the ways that are made of the columns of a model are those of its text
ways_are : (ways : List WayColumns) (others text : List ℕ) (m : BlocksView)
    → DenotesModel (way_list ways ++ others) text m → ways_from (length ways) m ≡ map (way_cells text) ways
ways_are ways others text m d =
    let chosen = way_list ways ++ others in
    let size : length chosen ≡ 2 * length ways + length others = length-append (way_list ways) others
    ∙ ap (λ n. n + length others) (way_list-length ways) in
    same_at_default way_zero (ways_from (length ways) m) (map (way_cells text) ways)
    (length-map-range_with_len (way_from m) 0 (length ways) ∙ sym (length-map ways (way_cells text))) (λ i l.
    let inside : i < length ways = omega (arith, l, length-map-range_with_len (way_from m) 0 (length ways)) in
    let r = column_is chosen text m (2 * i) d (omega (arith, inside, size))
    ∙ ap (cells text) (revenue_place ways others i inside) in
    let p = column_is chosen text m (2 * i + 1) d (omega (arith, inside, size))
    ∙ ap (cells text) (processing_place ways others i inside) in
    let made : way_from m i ≡ way_cells text (get_or ways i way_none) = λ j. record
    { revenue = r j; processing = p j } in
    get_or-map-range_with_len (way_from m) 0 (length ways) i i way_zero inside (omega arith) ∙ made
    ∙ sym (get_or-map (way_cells text) ways i way_none way_zero inside))

-- the prices that are made of the columns of a model are those of its text, whatever is chosen after them
pub first_columns_are : (columns : PriceColumns) (others text : List ℕ) (m : BlocksView)
    → DenotesModel (column_list columns ++ others) text m → first_columns columns m ≡ table_at columns text
first_columns_are (Plain revenue cost) others text m d =
    let r = column_is (revenue ∷ cost ∷ others) text m 0 d (omega arith) in
    let c = column_is (revenue ∷ cost ∷ others) text m 1 d (omega arith) in
    λ i. plain_prices (r i) (c i)
first_columns_are (Treated ways mining) others text m d =
    let after : (way_list ways ++ (mining ∷ [])) ++ others ≡ way_list ways ++ (mining ∷ others) = append_assoc
    (way_list ways) (mining ∷ []) others in
    let e = subst (λ (cs : List ℕ). DenotesModel cs text m) after d in
    let chosen = way_list ways ++ (mining ∷ others) in
    let front = length-append (way_list ways) (mining ∷ others) in
    let pairs = way_list-length ways in
    let w = ways_are ways (mining ∷ others) text m e in
    let c = column_is chosen text m (2 * length ways) e (omega (arith, front, pairs))
    ∙ ap (cells text) (mining_place ways mining others) in
    λ i. treated_prices (w i) (c i)

-- no other columns are chosen
pub table_is : (columns : PriceColumns) (text : List ℕ) (m : BlocksView) (table : PricesView)
    → DenotesModel (column_list columns) text m → table ≡ first_columns columns m → table ≡ table_at columns text
table_is columns text m table d is = is
    ∙ first_columns_are columns [] text m
    (subst (λ (cs : List ℕ). DenotesModel cs text m) (sym (append-nil (column_list columns))) d)

-- ---- settings and prices

-- what the reader tells of a text of settings stands in it
pub settings_told : (unused : List Key) (text : List ℕ) (fault : SettingsFault) → IsWithinLimit text
    → ReadsSettings text (Err fault) → SettingsReadFails unused text (of_settings fault)
settings_told unused text (settings_fault.Unused key) within h = absurd h
settings_told unused text (settings_fault.Missing key) within h = absurd h
settings_told unused text settings_fault.NoMemory within h = tt
settings_told unused text _ within h = (within, h)

-- of the keys of which no use is made this is the first that is there
pub unused_told : (unused : List Key) (text : List ℕ) (said : SettingsView) (key : Key) → IsWithinLimit text
    → ReadsSettings text (Ok said) → first_unused unused said ≡ Some key
    → SettingsReadFails unused text (engine.Settings (problem.Fault (settings_fault.Unused key)))
unused_told unused text said key within h m =
    let M : SettingsView → Type 0 = λ v. first_unused unused v ≡ Some key in
    (within, (settings_read text said h, subst M (sym (settings_are text said h)) m))

-- the prices were made of the columns of the text
prices_made : (text : List ℕ) (columns : PriceColumns) (m : BlocksView) (table : PricesView)
    → ReadsBlocks (column_list columns) text m → table ≡ first_columns columns m → ReadsPrices columns text table
prices_made text columns m table h is = record { within = h.0; read = h.1; is = table_is columns text m table h.2 is }

-- no prices are made of them
prices_fail : (text : List ℕ) (columns : PriceColumns) (m : BlocksView) (fault : EngineFault)
    → ReadsBlocks (column_list columns) text m → ModelPricesFail columns m fault → PricesReadFail columns text fault
prices_fail text columns m (engine.Prices fault) h f =
    let table = table_is columns text m (first_columns columns m) h.2 refl in
    let S : PricesView → Type 0 = λ t. PricesFaultStands t fault in
    (h.0, h.1, subst S table f)
prices_fail text columns m engine.Memory h f = tt
prices_fail text columns m engine.Device h f = tt
prices_fail text columns m _ h f = absurd f

-- what is made of the columns of the text is told of it
pub prices_told : (o : Option (List ℕ)) (columns : PriceColumns) (m : BlocksView)
    (made : Result PricesView EngineFault) → IfSome o (λ text. ReadsBlocks (column_list columns) text m)
    → MatchResult made (λ table. table ≡ first_columns columns m) (ModelPricesFail columns m)
    → IfSome o (λ text. MatchResult made (ReadsPrices columns text) (PricesReadFail columns text))
prices_told None columns m made h is = tt
prices_told (Some text) columns m (Ok table) h is = prices_made text columns m table h is
prices_told (Some text) columns m (Err fault) h f = prices_fail text columns m fault h f

-- the texts that price blocks, and the precedence, were read
pub all_read : (settings text precedence : List ℕ) (said : SettingsView) (table : PricesView) (rests : RestsView)
    (n : ℕ) → n ≡ priced_count table → NoRevenueNegative table → first_missing (price_keys said) said ≡ None
    → ReadsSettingsText slope_keys settings said → ReadsPrices (columns_said said) text table
    → ReadsPrec n precedence rests
    → ArePricesRead settings text (by_text precedence) table rests
all_read settings text precedence said table rests n e positive whole s t p =
    let known = settings_are settings said s.1 in
    let is : table ≡ table_of settings text = t.is ∙ ap (λ (v : SettingsView). table_by v text) (sym known) in
    let size : priced_count table ≡ rests.blocks = sym e ∙ sym p.2 in
    let count = sym (priced_at (columns_said said) text) ∙ ap priced_count (sym t.is) ∙ size in
    let M : SettingsView → Type 0 = λ v. first_missing (price_keys v) v ≡ None in
    let C : SettingsView → Type 0 = λ v. blocks.blocks_fault_of (price_columns v) text ≡ None in
    let U : SettingsView → Type 0 = λ v. first_unused slope_keys v ≡ None in
    let columns : ColumnsKnown settings = record {
      within = s.0;
      read = settings_read settings said s.1;
      used = subst U (sym known) s.2;
      said = subst M
          (sym known) whole;
    } in
    let F : ℕ → Type 0 = λ k. prec.fault_of k precedence ≡ None in
    record {
      mine = λ factor. record {
        worths_read = record {
          columns = columns;
          within = t.within;
          read = subst C (sym known) t.read;
          count = count;
          revenues = subst NoRevenueNegative is positive;
        };
        rests_read = record { within = p.0; read = subst F (sym p.2) p.1 };
      };
      table = is;
      size = size;
      pairs = λ factor. by_listed (prec.pairs_of_text precedence) rests.pairs p.3;
    }
