-- The names of this crate that its proofs and the crates above it use, each from its own file.
pub use Rattle.ordered_group.specs.Amount.{Amount, Amount_eq, AtMost, Below, FitsPair, GivesExactly, amount_cmp}
pub use Rattle.ordered_group.specs.Amount.{is_zero, larger_amount, larger_of, lesser_amount, lesser_of, minus, negative}
pub use Rattle.ordered_group.specs.Amount.{plus, positive, zero_amount}
pub use Rattle.ordered_group.specs.Block.{TakesParts, TellsWorth, counted_block, scaled_block, scaled_worth}
pub use Rattle.ordered_group.specs.Block.{worth_block}
pub use Rattle.ordered_group.specs.Group.{group_name, group_of}
pub use Rattle.ordered_group.specs.LawProofs.{counted_orders, counted_told, then_equal, true_not_false, worth_told}
pub use Rattle.ordered_group.specs.Laws.{BlocksTellWorth, IsOrderedGroup, SumsOrderSets, SumsTellWorth}
pub use Rattle.ordered_group.specs.ScaledProofs.{count_in-most, scaled_fits, scaled_orders, scaled_told, sum_times}
pub use Rattle.ordered_group.specs.Sets.{IsBefore, count_in, group_sum, worth_in}
pub use Rattle.ordered_group.specs.Sums.{SumFits, SumOverflows, amount_at, at_end, total, where_so}
