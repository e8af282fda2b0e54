-- What is known of sums of amounts: over ranges of numbers, over sets of them, and of closed sets against flows.
pub mod Ranges
pub mod Sets
pub mod Duality
pub use Rattle.ordered_group.proofs.Totals.Ranges.{plus-zero_left, plus-zero_right, plus-assoc, total_next, total-same}
pub use Rattle.ordered_group.proofs.Totals.Ranges.{total-plus, total-minus, total-zero, total-none, total_changed}
pub use Rattle.ordered_group.proofs.Totals.Ranges.{total_mono, total_nonneg, total_first, total_term, total_none_each}
pub use Rattle.ordered_group.proofs.Totals.Sets.{where_so-zero, where_so-plus, where_so-minus, where_at, where_not}
pub use Rattle.ordered_group.proofs.Totals.Sets.{where_nonneg, where_most, where_most_or, total-one, route, route_all}
pub use Rattle.ordered_group.proofs.Totals.Sets.{union, intersection, within_first, within_second, two_sets}
pub use Rattle.ordered_group.proofs.Totals.Duality.{weak_duality}
