-- A series of shells over prices and pairs that were read, and why there may be none.
use Rattle.std.specs.Prelude.{◌≡◌, ◌<◌, ◌⊎◌, ℕ, ℤ, List, Contains}
use Rattle.ordered_group.specs.Amount.{Amount}
use Rattle.prec_file.specs.Rests.{RestsView}
use Rattle.closure_net.specs.Prelude.{NetView, IsNet, WorthsFaultStands}
use Rattle.shells.specs.Prelude.{PricesView, worths_at, SeriesView, mine_at, IsOver}
use Rattle.option_words.specs.declared.effort.Effort.{Effort}
use Rattle.solve_engines.specs.declared.solvers.Unsolved as unsolved
use Rattle.solve_engines.specs.declared.solvers.Unsolved.TheVariants.{Unsettled}
use Rattle.solve_engines.specs.Solving.{UnsolvedStands}
use Rattle.lock_free_engine.specs.LockFreeRuns.{HasWords}
use Rattle.series_pits.specs.declared.no_series.NoSeries.{NoSeries}
use Rattle.series_pits.specs.declared.no_series.NoSeries.TheVariants.{Unsolved, Model, Memory}
use Rattle.series_pits.specs.declared.shell_rows.ShellRow.{ShellRow}
use Rattle.series_pits.specs.ShellTable.{AreRowsOf}

-- the series is of these pairs and prices and has these factors, and the rows are those of its best pits
pub record IsSettled (pairs : List (ℕ × ℕ)) (prices : PricesView) (factors : List ℕ) (series : SeriesView)
    (rows : List ShellRow) : Type 0 where
  pub same_pairs : series.pairs ≡ pairs
  pub same_prices : series.prices ≡ prices
  pub same_factors : series.factors ≡ factors
  pub rows_are : AreRowsOf (mine_at pairs prices) factors rows

-- the net of the pairs, and of the worths by the prices at a factor
pub record IsNetAt (block : ℤ → ℕ → Amount) (pairs : List (ℕ × ℕ)) (prices : PricesView) (factor : ℕ)
    (net : NetView) : Type 0 where
  pub is_net : IsNet net
  pub over : IsOver block pairs prices factor net

-- Why no pit is proved at a factor. One worker or two run without a lock, and where that run is unsettled nothing is
-- said of the net except that its totals fit words; everything else is said of runs under a lock, and of pseudoflow.
abbrev pub NotSolvedStands : NetView → Effort → unsolved.Unsolved → Type 0
NotSolvedStands net effort Unsettled = ((effort.workers < 3) × HasWords net)
    ⊎ UnsolvedStands net effort.method effort.steps Unsettled
NotSolvedStands net effort reason = UnsolvedStands net effort.method effort.steps reason

-- Why there is none: at one of the factors no pit was proved, or there is no net; or memory is wanted.
abbrev pub NoSeriesStands : (ℤ → ℕ → Amount) → RestsView → PricesView → List ℕ → Effort → NoSeries → Type 0
NoSeriesStands block rests prices factors effort (Unsolved factor why) = Contains factors factor
    × ((net : NetView) × IsNetAt block rests.pairs prices factor net × NotSolvedStands net effort why)
NoSeriesStands block rests prices factors effort (Model factor fault) = Contains factors factor
    × WorthsFaultStands block rests.blocks (worths_at prices factor) fault
NoSeriesStands block rests prices factors effort Memory = Unit {0}
