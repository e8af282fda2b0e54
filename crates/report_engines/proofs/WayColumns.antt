-- The tonnes by way of the rows of a bench table, a list for each way.
use Rattle.fixed_worth.proofs.Common.{◌≡◌, ℕ, zero, suc, ◌+◌, ◌<◌, ℤ, pos, ◌+ℤ◌, Bool, true, false, cond, ◌&&◌, Option}
use Rattle.fixed_worth.proofs.Common.{None, List, [], ◌∷◌, ◌++◌, length, map, get_or, range_with_len, Vec, refl, sym}
use Rattle.fixed_worth.proofs.Common.{ap, ◌∙◌, arith, All, All-weaker, All-head, All-tail, get_or-map}
use Rattle.fixed_worth.proofs.Common.{get_or-map-range_with_len, length-map, length-map-range_with_len, map-append}
use Rattle.std.specs.declared.alloc.Global.{Global}
use Rattle.std.proofs.lemmas.List.FromFn.{map-range_with_len_more}
use Rattle.blocks_file.specs.Denotes.{BlocksView}
use Rattle.ordered_group.specs.Sets.{worth_in}
use Rattle.ordered_group.proofs.BlockSets.{worth_in-same, worth_in-agrees}
use Rattle.shells.specs.Prelude.{priced_count, way_at, worths_at, SeriesView}
use Rattle.mine_inputs.specs.declared.columns_of_prices.PriceColumns.{PriceColumns}
use Rattle.mine_inputs.specs.declared.columns_of_prices.PriceColumns.TheVariants.{Plain, Treated}
use Rattle.mine_inputs.specs.PricedTexts.{first_columns, place_beside, way_from}
use Rattle.bench_report.specs.declared.bench_row.BenchRow.{BenchRow}
use Rattle.bench_report.specs.Prelude.{ReportedBlocks, blocks_at, bench_and_shell, IsBenchRow, IsBenchTable}
use Rattle.bench_report.specs.Prelude.{AreTonnesOf, goes_way, no_row, tonnes_at, tonnes_by_way, way_count, way_tonnes}
use Rattle.bench_report.proofs.OneTable.{places_are_one, first_place, other_places}
use Rattle.report_engines.specs.ReportParts.{IsPricedModel, AreWayColumns, IsWayColumn, blocks_with, tonnes_going}
use Rattle.report_engines.specs.ReportParts.{way_in, ways_among}
use Rattle.report_engines.proofs.SmallSums.{priced_size}

-- what some blocks of a set are worth is what the set is worth where the others are worth nothing
last : (s : ℤ) (a c : Bool) (x : ℤ) → s +ℤ cond a (cond c x (pos 0)) (pos 0) ≡ s +ℤ cond (a && c) x (pos 0)
last s true c x = refl
last s false c x = refl

masked : (g : ℕ → Bool) (t : ℕ → ℤ) (e : ℕ → Bool) (n : ℕ) → worth_in (λ b. cond (g b) (t b) (pos 0)) e n ≡ worth_in t
    (λ b. e b && g b) n
masked g t e zero = refl
masked g t e (suc n) = ap (λ s. s +ℤ cond (e n) (cond (g n) (t n) (pos 0)) (pos 0)) (masked g t e n)
    ∙ last (worth_in t (λ b. e b && g b) n) (e n) (g n) (t n)

same_column : (h : ℤ × ℕ → ℤ) (others rows : List BenchRow)
    → All (λ (r : BenchRow). r.worth ≡ h (bench_and_shell r)) others
    → map bench_and_shell others ≡ map bench_and_shell rows
    → map (λ (r : BenchRow). r.worth) others ≡ map (λ r. h (bench_and_shell r)) rows
same_column h [] [] a e = refl
same_column h [] (s ∷ ss) a e = absurd cc
same_column h (r ∷ rs) [] a e = absurd cc
same_column h (r ∷ rs) (s ∷ ss) a e =
    let P : BenchRow → Type 0 = λ r. r.worth ≡ h (bench_and_shell r) in
    rw (All-head P r rs a ∙ ap h (first_place e), same_column h rs ss (All-tail P r rs a) (other_places e)) refl

module _ (m : BlocksView) (priced_by : PriceColumns) (series : SeriesView) (ways : List (Option ℕ)) (way : ℕ) where
  abbrev going : List ℤ
  going = map (tonnes_going m (place_beside priced_by) ways way) (range_with_len 0 m.blocks)

  abbrev told : List ℤ → ReportedBlocks
  told worths = blocks_with m priced_by series worths

  -- the worth of a row of the tonnes that go a way is the tonnes of that row that go it
  row_worth : (worths : List ℤ) (z : ℤ) (k : ℕ) → worth_in (told going).worth (blocks_at (told going) z k) m.blocks
      ≡ worth_in (told worths).tonnes (λ b. blocks_at (told worths) z k b && goes_way (way_in ways b) way) m.blocks
  row_worth worths z k =
      let f = tonnes_going m (place_beside priced_by) ways way in
      let e = blocks_at (told going) z k in
      worth_in-agrees (told going).worth f e e m.blocks
      (λ b l. get_or-map-range_with_len f 0 m.blocks b b (pos 0) l (omega arith)) (λ b l. refl)
      ∙ masked (λ b. goes_way (way_in ways b) way) (told worths).tonnes e m.blocks

  pub column_is : (others : List BenchRow) (column : List ℤ) → IsBenchTable (told going) others
      → column ≡ map (λ (r : BenchRow). r.worth) others → IsWayColumn m priced_by series ways way column
  column_is others column table is = λ worths rows h.
      let H : ℤ × ℕ → ℤ = λ q. worth_in (told worths).tonnes
      (λ b. blocks_at (told worths) q.0 q.1 b && goes_way (way_in ways b) way) m.blocks in
      is ∙ same_column H others rows
      (All-weaker (IsBenchRow (told going)) (λ r. r.worth ≡ H (bench_and_shell r))
      (λ r k. k.value ∙ row_worth worths r.z r.shell) others table.each)
      (places_are_one (told going) (told worths) (record { blocks = refl; height = λ b. refl; shell = λ b. refl })
      others rows table h)

  -- one way more
  pub columns_more : (columns more : List (Vec ℤ Global)) (column : Vec ℤ Global) → more ≡ columns ++ column ∷ []
      → AreWayColumns m priced_by series ways way columns → IsWayColumn m priced_by series ways way column.items
      → AreWayColumns m priced_by series ways (way + 1) more
  columns_more columns more column is before last = λ worths rows h.
      let items : Vec ℤ Global → List ℤ = λ c. c.items in
      let G : ℕ → List ℤ = λ i. map (λ r. way_tonnes (told worths) (way_in ways) r i) rows in
      ap (map items) is ∙ map-append items columns (column ∷ []) ∙ rw (before worths rows h, last worths rows h) refl
      ∙ sym (map-range_with_len_more G 0 way way (omega arith))

-- ---- all ways

fused : {X Y Z : Type 0} (f : Y → Z) (g : X → Y) (xs : List X) → map f (map g xs) ≡ map (λ x. f (g x)) xs
fused f g [] = refl
fused f g (x ∷ xs) = ap (λ ys. f (g x) ∷ ys) (fused f g xs)

columns_count : (priced_by : PriceColumns) (m : BlocksView)
    → way_count (first_columns priced_by m) ≡ ways_among priced_by
columns_count (Plain revenue cost) m = refl
columns_count (Treated ways mining) m = length-map-range_with_len (way_from m) 0 (length ways)

module _ (m : BlocksView) (priced_by : PriceColumns) (series : SeriesView)
    (priced : IsPricedModel priced_by m series.prices) (k : ℕ) (ways : List (Option ℕ))
    (are : ways ≡ map (way_at series.prices k) (range_with_len 0 (priced_count series.prices))) where
  abbrev blocks : ReportedBlocks
  blocks = blocks_with m priced_by series (worths_at series.prices k)

  counted : ways_among priced_by ≡ way_count series.prices
  counted = sym (ap way_count priced.prices_are ∙ columns_count priced_by m)

  -- there is a way for each block
  pub each_way : length ways ≡ m.blocks
  each_way = ap length are ∙ length-map-range_with_len (way_at series.prices k) 0 (priced_count series.prices)
      ∙ priced_size priced_by m series.prices priced

  way_is : (b : ℕ) → b < m.blocks → way_in ways b ≡ way_at series.prices k b
  way_is b l =
      let inside : b < priced_count series.prices = omega (arith, l, priced_size priced_by m series.prices priced) in
      ap (λ (ws : List (Option ℕ)). get_or ws b None) are ∙ get_or-map-range_with_len (way_at series.prices k) 0
      (priced_count series.prices) b b None inside (omega arith)

  tonnes_same : (r : BenchRow) (i : ℕ) → way_tonnes blocks (way_in ways) r i ≡ way_tonnes blocks
      (way_at series.prices k) r i
  tonnes_same r i = worth_in-same blocks.tonnes (λ b. blocks_at blocks r.z r.shell b && goes_way (way_in ways b) i)
      (λ b. blocks_at blocks r.z r.shell b && goes_way (way_at series.prices k b) i) m.blocks
      (λ b l. ap (λ w. blocks_at blocks r.z r.shell b && goes_way w i) (way_is b l))

  module _ (by_way : List (Vec ℤ Global)) (rows : List BenchRow)
      (columns : AreWayColumns m priced_by series ways (ways_among priced_by) by_way)
      (table : IsBenchTable blocks rows) where
    abbrev column_of : ℕ → List ℤ
    column_of i = map (λ r. way_tonnes blocks (way_in ways) r i) rows

    abbrev items : Vec ℤ Global → List ℤ
    items c = c.items

    listed : map items by_way ≡ map column_of (range_with_len 0 (ways_among priced_by))
    listed = columns (worths_at series.prices k) rows table

    listed_count : length by_way ≡ ways_among priced_by
    listed_count = sym (length-map by_way items) ∙ ap length listed
        ∙ length-map-range_with_len column_of 0 (ways_among priced_by)

    pub way_many : length by_way ≡ way_count series.prices
    way_many = listed_count ∙ counted

    pub aligned : All (λ (list : Vec ℤ Global). length list.items ≡ length rows) by_way
    aligned = λ i d l.
        let inside : i < ways_among priced_by = omega (arith, l, listed_count) in
        let is : (get_or by_way i d).items ≡ column_of i = sym (get_or-map items by_way i d [] l)
        ∙ ap (λ (xs : List (List ℤ)). get_or xs i []) listed
        ∙ get_or-map-range_with_len column_of 0 (ways_among priced_by) i i [] inside (omega arith) in
        ap length is ∙ length-map rows (λ r. way_tonnes blocks (way_in ways) r i)

    pub tonnes_are : AreTonnesOf rows by_way (tonnes_by_way blocks (way_at series.prices k) (way_count series.prices))
    tonnes_are = λ j l.
        let n = ways_among priced_by in
        let r = get_or rows j no_row in
        let at : List ℤ → ℤ = λ xs. get_or xs j (pos 0) in
        let one : (i : ℕ) → at (column_of i) ≡ way_tonnes blocks (way_at series.prices k) r i = λ i. get_or-map
        (λ r. way_tonnes blocks (way_in ways) r i) rows j no_row (pos 0) l ∙ tonnes_same r i in
        let told : tonnes_at by_way j ≡ map (way_tonnes blocks (way_at series.prices k) r) (range_with_len 0 n) = sym
        (fused at items by_way) ∙ ap (map at) listed ∙ fused at column_of (range_with_len 0 n)
        ∙ (λ t. map (λ i. one i t) (range_with_len 0 n)) in
        sym (told ∙ ap (λ c. map (way_tonnes blocks (way_at series.prices k) r) (range_with_len 0 c)) counted)
