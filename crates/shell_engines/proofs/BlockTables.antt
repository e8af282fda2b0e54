-- The shells of a series are those of its texts: the table of blocks.
use Rattle.fixed_worth.proofs.Common.{◌≡◌, ℕ, Bool, true, false, List, sym, ap, ◌∙◌, subst, Contains, find}
use Rattle.prec_file.specs.Rests.{RestsView}
use Rattle.closure_net.specs.Mine.{Mine, IsBest}
use Rattle.shells.specs.Prelude.{PricesView, priced_count, way_at, SeriesView, mine_at, shell_at, upto, IsSeries}
use Rattle.bench_report.specs.BlockShells.{blocks_text}
use Rattle.series_pits.specs.declared.shell_rows.ShellRow.{ShellRow}
use Rattle.mine_inputs.specs.Prelude.{table_of, PrecedenceBy}
use Rattle.shell_engines.specs.Prelude.{mine_at_factor, IsBlockTable, IsTableIfAsked, factors_said, IsSeriesRead}
use Rattle.shell_engines.specs.Prelude.{HasTableIfAsked, way_said}
use Rattle.series_pits.specs.Prelude.{IsSettled}
use Rattle.shell_engines.proofs.FirstShell.{first_is}
use Rattle.shell_engines.proofs.Lifted.{mine_is}

module _ (s t : List ℕ) (p : PrecedenceBy) (prices : PricesView) (rests : RestsView) (factors : List ℕ) (factor : ℕ)
    (read : IsSeriesRead s t p prices rests factors factor) (series : SeriesView) (shell_rows : List ShellRow)
    (settled : IsSettled rests.pairs prices factors series shell_rows) (is : IsSeries series) where
  -- the shell of a block is the first factor whose pit holds it
  pub first_shell : (b : ℕ) → find (λ k. upto series.shells k b) (factors_said s) ≡ shell_at series.shells b
  first_shell b = subst (λ (fs : List ℕ). find (λ k. upto series.shells k b) fs ≡ shell_at series.shells b)
      (settled.same_factors ∙ read.factors_are)
      (first_is (shell_at series.shells b) series.factors is.rising (is.known b))

  pub best_is : (k : ℕ) → Contains (factors_said s) k
      → IsBest (mine_at_factor rests.blocks s t p k) (upto series.shells k)
  best_is k c =
      let held : Contains series.factors k = subst (λ (fs : List ℕ). Contains fs k)
      (sym (settled.same_factors ∙ read.factors_are)) c in
      let B : Mine → Type 0 = λ mine. IsBest mine (upto series.shells k) in
      let Q : List (ℕ × ℕ) → Type 0 = λ ps. B (mine_at ps prices k) in
      let V : PricesView → Type 0 = λ v. B (mine_at series.pairs v k) in
      subst B (mine_is s t p prices rests read.mine k)
      (subst Q settled.same_pairs (subst V settled.same_prices (is.best k held)))

  count : priced_count series.prices ≡ rests.blocks
  count = ap priced_count settled.same_prices ∙ read.mine.size

  -- the way of a block by the prices of the series is that by the texts
  pub way_is : (b : ℕ) → way_at series.prices factor b ≡ way_said s t b
  way_is b = ap (λ (v : PricesView). way_at v factor b) (settled.same_prices ∙ read.mine.table)
      ∙ ap (λ k. way_at (table_of s t) k b) read.factor_is

  same_text : (ways : Bool) → blocks_text ways (shell_at series.shells) (way_at series.prices factor)
      (priced_count series.prices) ≡ blocks_text ways (λ b. find (λ k. upto series.shells k b) (factors_said s))
      (way_said s t) rests.blocks
  same_text ways = λ i. blocks_text ways (λ b. sym (first_shell b) i) (λ b. way_is b i) (count i)

  block_table : (ways : Bool)
      → IsBlockTable ways s t p
      (blocks_text ways (shell_at series.shells) (way_at series.prices factor) (priced_count series.prices))
  block_table ways = record {
    size = rests.blocks;
    mine = read.mine.mine;
    pit = upto series.shells;
    best = best_is;
    spelled = same_text ways;
  }

  pub has_table : (asked ways : Bool) (text : List ℕ) → HasTableIfAsked asked ways factor series text
      → IsTableIfAsked asked ways s t p text
  has_table true ways text h = subst (λ (xs : List ℕ). IsBlockTable ways s t p xs) (sym h) (block_table ways)
  has_table false ways text h = h
