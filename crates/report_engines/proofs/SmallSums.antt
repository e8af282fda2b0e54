-- Sums of tonnes and of worths don't overflow 128 bits.
use Rattle.fixed_worth.proofs.Common.{◌≡◌, ℕ, zero, suc, ◌+◌, ◌*◌, ◌^◌, ◌<◌, ◌≤◌, ℤ, pos, ◌-ℤ◌, ◌*ℤ◌, Bool, true, false}
use Rattle.fixed_worth.proofs.Common.{cond, Option, map, range_with_len, List, [], ◌∷◌, length, get_or, All, All-head}
use Rattle.fixed_worth.proofs.Common.{All-tail, All-map, sym, ap, ◌∙◌, subst, arith, unsigned_abs, FitsSigned, w128}
use Rattle.fixed_worth.proofs.Common.{ints, clamps, fits_signed_from_abs, unsigned_abs-mul, mul-le}
use Rattle.fixed_worth.proofs.Common.{get_or-map-range_with_len, length-map-range_with_len, common_steps}
use Rattle.blocks_file.specs.Denotes.{BlocksView, IsSmallColumn}
use Rattle.fixed_worth.specs.declared.limits.TheConstants.{MOST_BLOCKS, MOST_FACTOR}
use Rattle.ordered_group.specs.Sets.{worth_in}
use Rattle.shells.specs.Prelude.{PricesView, WayView, priced_count, number_at, left_at, worths_by, best_of, worth_at}
use Rattle.shells.specs.Prelude.{worths_at, SeriesView}
use Rattle.mine_inputs.specs.declared.columns_of_prices.PriceColumns.{PriceColumns}
use Rattle.mine_inputs.specs.declared.columns_of_prices.PriceColumns.TheVariants.{Plain, Treated}
use Rattle.mine_inputs.specs.PricedTexts.{place_beside, values_of, first_columns, way_from, ways_from}
use Rattle.mine_inputs.proofs.Priced.{first_size}
use Rattle.bench_report.specs.Prelude.{goes_way, reported_blocks, blocks_at, SameLengths, AllSumsFit}
use Rattle.bench_report.specs.Prelude.{SomeBenchSumOverflows}
use Rattle.report_engines.specs.ReportParts.{IsPricedModel, AreSmallAmounts, tonnes_going, way_in}

-- the most that an amount of a block can be, either way
abbrev most : ℕ
most = 20000000000000000000000

-- so many amounts, each at most that, sum to at most so many times that
pub sum_bound : (v : ℕ → ℤ) (e : ℕ → Bool) (n : ℕ) → ((b : ℕ) → b < n → unsigned_abs (v b) ≤ most)
    → unsigned_abs (worth_in v e n) ≤ n * most
sum_bound v e zero h = omega arith
sum_bound v e (suc n) h = grind (arith, common_steps, (sum_bound v e n (λ b l. h b (omega (arith, l)))))

sum_fits : (v : ℕ → ℤ) (e : ℕ → Bool) (n j : ℕ) → n ≤ MOST_BLOCKS → j ≤ n
    → ((b : ℕ) → b < n → unsigned_abs (v b) ≤ most) → FitsSigned w128 (worth_in v e j)
sum_fits v e n j few l h =
    let s = sum_bound v e j (λ b k. h b (omega (arith, k, l))) in
    fits_signed_from_abs w128 (worth_in v e j) (omega (arith, s, few, l))

product_bound : (k m : ℕ) (z : ℤ) → k ≤ m → unsigned_abs z ≤ 10 ^ 18 → unsigned_abs (pos k *ℤ z) ≤ m * 10 ^ 18
product_bound k m z l h = rw (unsigned_abs-mul (pos k) z) (mul-le k (unsigned_abs z) m (10 ^ 18) l h)

difference_bound : (x y : ℤ) → unsigned_abs x ≤ 10000 * 10 ^ 18 → unsigned_abs y ≤ 1000 * 10 ^ 18
    → unsigned_abs (x -ℤ y) ≤ 11000 * 10 ^ 18
difference_bound x y p q = omega (arith, ints, p, q)

mined_bound : (x y : ℤ) → unsigned_abs x ≤ 11000 * 10 ^ 18 → unsigned_abs y ≤ 1000 * 10 ^ 18
    → unsigned_abs (x -ℤ y) ≤ most
mined_bound x y p q = omega (arith, ints, p, q)

-- the greatest of small amounts is small
best_bound : (ws : List ℤ) (n : ℕ) → All (λ w. unsigned_abs w ≤ n) ws → unsigned_abs (best_of ws) ≤ n
best_bound [] n h = omega arith
best_bound (w ∷ ws) n h =
    let first = All-head (λ w. unsigned_abs w ≤ n) w ws h in
    let others = best_bound ws n (All-tail (λ w. unsigned_abs w ≤ n) w ws h) in
    omega (arith, ints, clamps, first, others)

value_bound : (m : BlocksView) (i b : ℕ) → IsSmallColumn m i → b < m.blocks
    → unsigned_abs (number_at (values_of m i) b) ≤ 10 ^ 18
value_bound m i b h l = grind (arith, common_steps, pos, get_or-map-range_with_len, unsigned_abs)

charge_bound : (m : BlocksView) (i b : ℕ) → IsSmallColumn m i → b < m.blocks
    → unsigned_abs (pos 1000 *ℤ number_at (values_of m i) b) ≤ 1000 * 10 ^ 18
charge_bound m i b h l = product_bound 1000 1000 (number_at (values_of m i) b) (omega arith) (value_bound m i b h l)

-- what is left of a revenue less a charge, each a chosen column of a model
left_bound : (m : BlocksView) (i j k b : ℕ) → IsSmallColumn m i → IsSmallColumn m j → b < m.blocks → k ≤ MOST_FACTOR
    → unsigned_abs (left_at (values_of m i) (values_of m j) k b) ≤ 11000 * 10 ^ 18
left_bound m i j k b r c l few =
    difference_bound (pos k *ℤ number_at (values_of m i) b) (pos 1000 *ℤ number_at (values_of m j) b)
    (product_bound k 10000 (number_at (values_of m i) b) few (value_bound m i b r l)) (charge_bound m j b c l)

-- what is left by each way
ways_bound : (n : ℕ) (m : BlocksView) (k b : ℕ) → ((i : ℕ) → i < 2 * n → IsSmallColumn m i) → b < m.blocks
    → k ≤ MOST_FACTOR → All (λ w. unsigned_abs w ≤ 11000 * 10 ^ 18) (worths_by (ways_from n m) k b)
ways_bound n m k b small l few =
    let worth = λ (way : WayView). left_at way.revenue way.processing k b in
    All-map (λ w. unsigned_abs w ≤ 11000 * 10 ^ 18) worth (ways_from n m) (λ i d h.
    let inside : i < n = omega (arith, h, length-map-range_with_len (way_from m) 0 n) in
    subst (λ (way : WayView). unsigned_abs (worth way) ≤ 11000 * 10 ^ 18)
    (sym (get_or-map-range_with_len (way_from m) 0 n i i d inside (omega arith)))
    (left_bound m (2 * i) (2 * i + 1) k b (small (2 * i) (omega (arith, inside)))
    (small (2 * i + 1) (omega (arith, inside))) l few))

-- what a block is worth by the first columns of a model
first_bound : (priced_by : PriceColumns) (m : BlocksView) (k b : ℕ)
    → ((i : ℕ) → i ≤ place_beside priced_by → IsSmallColumn m i) → b < m.blocks → k ≤ MOST_FACTOR
    → unsigned_abs (worth_at (first_columns priced_by m) k b) ≤ most
first_bound (Plain revenue cost) m k b small l few = let left = left_bound m 0 1 k b (small 0 (omega arith))
    (small 1 (omega arith)) l few in omega (arith, left)
first_bound (Treated ways mining) m k b small l few =
    let n = length ways in
    let ws = worths_by (ways_from n m) k b in
    let best = best_bound ws (11000 * 10 ^ 18) (ways_bound n m k b (λ i h. small i (omega (arith, h))) l few) in
    mined_bound (best_of ws) (pos 1000 *ℤ number_at (values_of m (2 * n)) b) best
    (charge_bound m (2 * n) b (small (2 * n) (omega arith)) l)

module _ (priced_by : PriceColumns) (m : BlocksView) (prices : PricesView) (p : IsPricedModel priced_by m prices) where
  pub priced_size : priced_count prices ≡ m.blocks
  priced_size = first_size priced_by m prices p.prices_are

  worth_bound : (k b : ℕ) → k ≤ MOST_FACTOR → b < m.blocks → unsigned_abs (worth_at prices k b) ≤ most
  worth_bound k b few l = subst (λ (t : PricesView). unsigned_abs (worth_at t k b) ≤ most) (sym p.prices_are)
      (first_bound priced_by m k b p.small l few)

  worths_bound : (k b : ℕ) → k ≤ MOST_FACTOR → b < m.blocks → unsigned_abs (get_or (worths_at prices k) b (pos 0))
      ≤ most
  worths_bound k b few l =
      let at = get_or-map-range_with_len (worth_at prices k) 0 (priced_count prices) b b (pos 0)
      (omega (arith, l, priced_size)) (omega arith) in
      subst (λ z. unsigned_abs z ≤ most) (sym at) (worth_bound k b few l)

  -- worths are such amounts
  pub small_worths : (k : ℕ) → k ≤ MOST_FACTOR → AreSmallAmounts m (worths_at prices k)
  small_worths k few = record {
    count = length-map-range_with_len (worth_at prices k) 0 (priced_count prices)
        ∙ priced_size;
    small = λ b l. worths_bound k b few l;
  }

  -- and so are the tonnes of the blocks that go a way
  tonnes_small : (ways : List (Option ℕ)) (way b : ℕ) → b < m.blocks
      → unsigned_abs (tonnes_going m (place_beside priced_by) ways way b) ≤ most
  tonnes_small ways way b l = go (goes_way (way_in ways b) way)
    where
      go : (t : Bool) → unsigned_abs
          (cond t (get_or (get_or m.columns (place_beside priced_by) []) b (pos 0)) (pos 0)) ≤ most
      go true = let small = p.small (place_beside priced_by) (omega arith) b l in omega (arith, small)
      go false = omega arith

  pub small_tonnes : (ways : List (Option ℕ)) (way : ℕ)
      → AreSmallAmounts m (map (tonnes_going m (place_beside priced_by) ways way) (range_with_len 0 m.blocks))
  small_tonnes ways way =
      let f = tonnes_going m (place_beside priced_by) ways way in
      record {
        count = length-map-range_with_len f 0 m.blocks;
        small = λ b l. subst (λ z. unsigned_abs z ≤ most)
            (sym (get_or-map-range_with_len f 0 m.blocks b b (pos 0) l (omega arith))) (tonnes_small ways way b l);
      }

  -- the model, the series and the amounts are of as many blocks
  pub same_lengths : (series : SeriesView) (amounts : List ℤ) → series.prices ≡ prices → AreSmallAmounts m amounts
      → SameLengths m series amounts
  same_lengths series amounts is small = record {
    of_shells = ap priced_count is
        ∙ priced_size;
    of_worths = small.count;
  }

  sums_fit : (series : SeriesView) (amounts : List ℤ) → m.blocks ≤ MOST_BLOCKS → AreSmallAmounts m amounts
      → AllSumsFit (reported_blocks m series (place_beside priced_by) amounts)
  sums_fit series amounts few small z shell j l =
      let r = reported_blocks m series (place_beside priced_by) amounts in (
        sum_fits r.tonnes (blocks_at r z shell) m.blocks j few l
            (λ b k. let small = p.small (place_beside priced_by) (omega arith) b k in omega (arith, small)),
        sum_fits r.worth (blocks_at r z shell) m.blocks j few l (λ b h. small.small b h),
      )

  pub none_overflows : (series : SeriesView) (amounts : List ℤ) → m.blocks ≤ MOST_BLOCKS → AreSmallAmounts m amounts
      → SomeBenchSumOverflows (reported_blocks m series (place_beside priced_by) amounts) → ⊥
  none_overflows series amounts few small o = o.4 (sums_fit series amounts few small o.0 o.1 o.2 o.3)
