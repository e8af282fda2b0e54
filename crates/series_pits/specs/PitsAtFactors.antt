-- What only the functions of this crate say to one another.
use Rattle.std.specs.Prelude.{◌≡◌, ℕ, ℤ, ◌++◌, ◌∷◌, [], List, Contains}
use Rattle.ordered_group.specs.Amount.{Amount}
use Rattle.prec_file.specs.Rests.{RestsView}
use Rattle.option_words.specs.declared.effort.Effort.{Effort}
use Rattle.shells.specs.Prelude.{PricesView, SeriesView, mine_at}
use Rattle.closure_net.specs.Prelude.{NetView, holds_of, Mine, IsNetOf, IsBest}
use Rattle.series_pits.specs.declared.best_pits.BestPit.{BestPit}
use Rattle.series_pits.specs.declared.shell_rows.ShellRow.{ShellRow}
use Rattle.series_pits.specs.ShellTable.{IsRowOf}
use Rattle.series_pits.specs.declared.no_series.NoSeries.{NoSeries}
use Rattle.series_pits.specs.SettledSeries.{NoSeriesStands}

-- why there is no net at a factor, whatever else there is
abbrev pub NoNetStands : (ℤ → ℕ → Amount) → RestsView → PricesView → ℕ → NoSeries → Type 0
NoNetStands block rests prices factor e = (factors : List ℕ) (effort : Effort) → Contains factors factor
    → NoSeriesStands block rests prices factors effort e

-- the pit is the best one of each mine whose net this is, and the row has what it is and this factor
pub record IsBestOf (block : ℤ → ℕ → Amount) (net : NetView) (factor : ℕ) (best : BestPit) : Type 0 where
  pub at : best.row.factor ≡ factor
  pub is_best : (mine : Mine) → IsNetOf block mine net → IsBest mine (holds_of best.pit)
  pub row_is : (mine : Mine) → IsNetOf block mine net → IsRowOf mine best.row

-- the pit is the best one of these pairs and prices at the factor of its row, which has what it is
pub record IsProved (pairs : List (ℕ × ℕ)) (prices : PricesView) (best : BestPit) : Type 0 where
  pub is_best : IsBest (mine_at pairs prices best.row.factor) (holds_of best.pit)
  pub row_is : IsRowOf (mine_at pairs prices best.row.factor) best.row

-- one factor more, with its row
pub record IsAdded (s t : SeriesView) (rows rows' : List ShellRow) (factor : ℕ) : Type 0 where
  pub pairs : t.pairs ≡ s.pairs
  pub prices : t.prices ≡ s.prices
  pub factors : t.factors ≡ s.factors ++ factor ∷ []
  pub row : ShellRow
  pub last : rows' ≡ rows ++ row ∷ []
  pub at : row.factor ≡ factor
  pub is : IsRowOf (mine_at s.pairs s.prices factor) row
