-- The names of this crate that its proofs and the crates above it use, each from its own file.
pub use Rattle.shells.specs.Nesting.{AcceptedPitsAreNested, BestPitsAreNested}
pub use Rattle.shells.specs.Prices.{AreListed, HasNumbers, IsFirstNegative, IsTable, NoRevenueNegative}
pub use Rattle.shells.specs.Prices.{PricesFaultStands, PricesView, WayView, best_of, first_best, left_at, number_at}
pub use Rattle.shells.specs.Prices.{plain_prices, price_of, priced_count, revenues_at, treated_prices, way_at}
pub use Rattle.shells.specs.Prices.{way_count, worth_at, worth_by_way, worths_at, worths_by}
pub use Rattle.shells.specs.Series.{HasWorths, IsAboveAll, IsHeldSeries, IsOver, IsPushed, IsSeries, IsShell}
pub use Rattle.shells.specs.Series.{OpenFaultStands, PushFaultStands, SeriesView, is_upto, mine_at, mine_of_prices}
pub use Rattle.shells.specs.Series.{opened_series, rests_in, shell_at, upto, with_shell}
pub use Rattle.shells.specs.Shown.{shown_table}
