-- The names of this crate that its proofs and the crates above it use, each from its own file.
pub use Rattle.periods_file.specs.ByWay.{by_each_way, resource_row, resource_rows, resources_of, shared_of, shared_row}
pub use Rattle.periods_file.specs.ByWay.{shared_rows, width_of}
pub use Rattle.periods_file.specs.Keys.{all_known, is_known, key_name}
pub use Rattle.periods_file.specs.Periods.{IsOfTable, PeriodsView, ReadsPeriods, or_bad, or_given, or_none}
pub use Rattle.periods_file.specs.Periods.{periods_fault_text, periods_in, periods_view, said_at, value_said, values_in}
pub use Rattle.periods_file.specs.Values.{alone, are_weights, columns_of, if_holds, if_some, is_above_first, lag_of}
pub use Rattle.periods_file.specs.Values.{number_row, numbers_of, numbers_of_items, put_before, row_value_within}
pub use Rattle.periods_file.specs.Values.{rows_of, rows_of_items, weights_of}
unfoldable pub use Rattle.periods_file.specs.Values.{all_rows, are_falling}
