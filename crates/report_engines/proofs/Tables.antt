-- The bench table of a series is that of the texts.
use Rattle.fixed_worth.proofs.Common.{◌≡◌, ℕ, pos, ◌<◌, List, [], ◌∷◌, ◌++◌, length, get_or, Bool, refl, sym, ap, ◌∙◌}
use Rattle.fixed_worth.proofs.Common.{subst, arith, Result, unwrap_or, MatchResult, length-append, get_or-append_seam}
use Rattle.fixed_worth.proofs.Common.{get_or-map-range_with_len}
use Rattle.ordered_group.specs.Block.{scaled_block}
use Rattle.blocks_file.specs.declared.place.Place.{Place}
use Rattle.blocks_file.specs.Denotes.{BlocksView}
use Rattle.prec_file.specs.Rests.{RestsView}
use Rattle.settings_file.specs.Settings.{settings_of}
use Rattle.closure_net.specs.declared.net.NetFault.{NetFault}
use Rattle.closure_net.specs.declared.net.NetFault.TheVariants as net_fault
use Rattle.shells.specs.Prelude.{PricesView, priced_count, way_at, worth_at, worths_at, SeriesView, upto, IsSeries}
use Rattle.shells.specs.Prelude.{BestPitsAreNested}
use Rattle.bench_report.specs.declared.bench_row.BenchRow.{BenchRow}
use Rattle.bench_report.specs.Prelude.{IsBenchTable, bench_text, way_count}
use Rattle.check_engines.specs.declared.judgement.Verdict.TheVariants.{No}
use Rattle.option_words.specs.declared.effort.Effort.{Effort}
use Rattle.engine_faults.specs.declared.engine_fault.EngineFault.{EngineFault}
use Rattle.mine_inputs.specs.declared.columns_of_prices.PriceColumns.{PriceColumns}
use Rattle.mine_inputs.specs.Prelude.{PrecedenceBy, is_sloped, columns_said, column_list, place_beside, region_columns}
use Rattle.mine_inputs.specs.Prelude.{cell, table_of}
use Rattle.engine_faults.specs.Prelude.{of_model}
use Rattle.series_pits.specs.declared.shell_rows.ShellRow.{ShellRow}
use Rattle.series_pits.specs.declared.no_series.NoSeries.{NoSeries}
use Rattle.shell_engines.specs.declared.series_outputs.Wanted.{Wanted}
use Rattle.shell_engines.specs.Prelude.{report_factor, way_said, TellsWhy, IsFaultOf, DenoteSeries, ShellsFail}
use Rattle.series_pits.specs.Prelude.{IsSettled, NoSeriesStands}
use Rattle.shell_engines.specs.declared.series_outputs.Answer.{Answer}
use Rattle.shell_engines.proofs.Lifted.{nested, denoted, no_series_answer}
use Rattle.shell_engines.proofs.BlockTables.{first_shell, best_is, way_is}
use Rattle.mine_inputs.proofs.Priced.{price_places, priced_at}
use Rattle.report_engines.specs.Prelude.{ReportBlocksRead, report_blocks, IsReport, AnswersReport, ReportFails}
use Rattle.report_engines.specs.Prelude.{IsReportRead, blocks_with}
use Rattle.report_engines.proofs.SameBlocks.{AreAlike, table_same, text_same}

-- the tonnes stand after the columns of prices
tonnes_chosen : (priced_by : PriceColumns) (tonnes : ℕ) (others : List ℕ)
    → get_or (column_list priced_by ++ (tonnes ∷ others)) (place_beside priced_by) 0 ≡ tonnes
tonnes_chosen priced_by tonnes others = ap (λ i. get_or (column_list priced_by ++ (tonnes ∷ others)) i 0)
    (sym (price_places priced_by)) ∙ get_or-append_seam (column_list priced_by) tonnes others 0

pub tonnes_within : (priced_by : PriceColumns) (tonnes : ℕ) (others : List ℕ)
    → place_beside priced_by < length (column_list priced_by ++ (tonnes ∷ others))
tonnes_within priced_by tonnes others = omega
    (arith, price_places priced_by, length-append (column_list priced_by) (tonnes ∷ others))

module _ (s t : List ℕ) (p : PrecedenceBy) (prices : PricesView) (rests : RestsView) (factors : List ℕ)
    (m : BlocksView) (priced_by : PriceColumns) (factor : ℕ)
    (read : IsReportRead s t p prices rests factors m priced_by factor) where
  blocks_read : ReportBlocksRead (is_sloped p) s t
  blocks_read = record { keys = read.keys; within = read.blocks_are.0; read = read.blocks_are.1 }

  size_is : rests.blocks ≡ m.blocks
  size_is =
      sym read.series.mine.size ∙ ap priced_count read.series.mine.table
      ∙ priced_at (columns_said (settings_of s)) t ∙ sym read.blocks_are.2.count

  module _ (series : SeriesView) (shell_rows : List ShellRow)
      (settled : IsSettled rests.pairs prices factors series shell_rows) (is : IsSeries series) where
    worth_is : (b : ℕ) → b < m.blocks → worth_at (table_of s t) (report_factor s) b ≡ get_or
        (worths_at series.prices factor) b (pos 0)
    worth_is b l =
        let inside : b < priced_count prices = omega (arith, l, size_is, read.series.mine.size) in
        let at = get_or-map-range_with_len (worth_at prices factor) 0 (priced_count prices) b b (pos 0) inside
        (omega arith) in
        sym (ap (λ (v : PricesView). get_or (worths_at v factor) b (pos 0)) settled.same_prices ∙ at
        ∙ ap (λ (v : PricesView). worth_at v factor b) read.series.mine.table
        ∙ ap (λ k. worth_at (table_of s t) k b) read.series.factor_is)

    -- the tonnes of a block are those of its record
    tonnes_are : (b : ℕ) → b < m.blocks → get_or (get_or m.columns (place_beside priced_by) []) b (pos 0) ≡ cell t
        (unwrap_or (settings_of s).tonnes 0) b
    tonnes_are b l =
        let said = settings_of s in
        let kind = columns_said said in
        let Q : ℕ → Type 0 = λ i. get_or (get_or m.columns i []) b (pos 0) ≡ cell t (unwrap_or said.tonnes 0) b in
        let tonnes = unwrap_or said.tonnes 0 in
        subst Q (sym (ap place_beside read.columns_are))
        (read.blocks_are.2.value (place_beside kind) b (tonnes_within kind tonnes (region_columns said)) l
        ∙ ap (λ i. cell t i b) (tonnes_chosen kind tonnes (region_columns said)))

    alike : AreAlike (blocks_with m priced_by series (worths_at series.prices factor))
        (report_blocks rests.blocks s t (upto series.shells))
    alike = record {
      blocks = size_is;
      height = λ b l. sym (ap (λ (q : Place). q.z) (read.blocks_are.2.place b l));
      shell = λ b l. first_shell s t p prices rests factors factor read.series series shell_rows settled is b;
      tonnes = λ b l. sym (tonnes_are b l);
      worth = worth_is;
    }

    -- the text of the table is that of the texts
    same_text : (ways : Bool) (rows : List BenchRow)
        → bench_text ways (blocks_with m priced_by series (worths_at series.prices factor))
        (way_at series.prices factor) (way_count series.prices) rows ≡ bench_text ways
        (report_blocks rests.blocks s t (upto series.shells)) (way_said s t) (way_count (table_of s t)) rows
    same_text ways rows =
        let count : way_count series.prices ≡ way_count (table_of s t) = ap way_count
        (settled.same_prices ∙ read.series.mine.table) in
        text_same _ _ alike ways (way_at series.prices factor) (way_count series.prices) rows
        ∙ (λ i. bench_text ways (report_blocks rests.blocks s t (upto series.shells))
        (λ b. way_is s t p prices rests factors factor read.series series shell_rows settled is b i) (count i) rows)

    pub is_report : BestPitsAreNested → (ways : Bool) (rows : List BenchRow)
        → IsBenchTable (blocks_with m priced_by series (worths_at series.prices factor)) rows → (text : List ℕ)
        → text ≡ bench_text ways (blocks_with m priced_by series (worths_at series.prices factor))
        (way_at series.prices factor) (way_count series.prices) rows → IsReport ways s t p text
    is_report law ways rows table text spelled = record {
      size = rests.blocks;
      mine = read.series.mine.mine;
      read = blocks_read;
      pit = upto series.shells;
      best = best_is s t p prices rests factors factor read.series series shell_rows settled is;
      nested = nested s t p prices rests read.series.mine law;
      rows = rows;
      table = table_same _ _ alike rows table;
      spelled = spelled ∙ same_text ways rows;
    }

  both : ReportBlocksRead (is_sloped p) s t × DenoteSeries s t p
  both = (blocks_read, denoted s t p prices rests factors factor read.series)

  net_fails : (fault : NetFault) → ShellsFail s t p (of_model fault) → ReportFails s t p (of_model fault)
  net_fails net_fault.NoMemory h = tt
  net_fails fault h = (blocks_read, h)

  -- what comes of a mine that has no series
  pub no_report_answer : (effort : Effort) (wanted : Wanted) (x : NoSeries) (answer : Result Answer EngineFault)
      → NoSeriesStands scaled_block rests prices factors effort x
      → MatchResult answer (λ a. (a.verdict ≡ No) × (a.table.items ≡ []) × TellsWhy x a.text.items) (IsFaultOf x)
      → MatchResult answer (λ a. AnswersReport s t p effort wanted a.verdict a.table.items a.text.items)
      (ReportFails s t p)
  no_report_answer effort wanted = no_series_answer s t p prices rests factors factor read.series effort
      (AnswersReport s t p effort wanted) (ReportFails s t p) (λ text h. (blocks_read, h, refl)) tt both both net_fails
