-- The names of this crate that its proofs and the crates above it use, each from its own file.
pub use Rattle.machine_law.specs.Amounts.{HasAmounts, IsBestIfAny, IsBestPort, IsDue, IsHeld, IsOperation}
pub use Rattle.machine_law.specs.Amounts.{IsReadCapacity, IsScan, IsWithin, IsWithinBy}
pub use Rattle.machine_law.specs.Balances.{IsBalanced, balance, supply}
pub use Rattle.machine_law.specs.Conservation.{IsConserved, IsWhole, RunsConserve, amount_carried}
unfoldable pub use Rattle.machine_law.specs.Conservation.{all_given, amount_aloft, standing_excess}
pub use Rattle.machine_law.specs.Labels.{HasLabels, IsAbove, IsBestLabel, IsLevelIfAny, IsLevelled, IsNearLabel}
pub use Rattle.machine_law.specs.Labels.{IsOpenBy, IsWalk, high_capacity, is_under, label_by, label_seen, low_capacity}
pub use Rattle.machine_law.specs.Labels.{ports_have, same_by, same_port, steep_capacity}
unfoldable pub use Rattle.machine_law.specs.Labels.{arcs}
pub use Rattle.machine_law.specs.Law.{IsLawful, RunsKeepLaw, StepsKeepLaw}
pub use Rattle.machine_law.specs.Operations.{best_as, is_idle, operation_as}
pub use Rattle.machine_law.specs.Quiet.{IsFlowOf, IsSolved, QuietSolves}
pub use Rattle.machine_law.specs.Reads.{LooksAtPort, after_capacity, after_label, after_last_port, after_port}
pub use Rattle.machine_law.specs.Reads.{after_port_by, better_of, is_positive, operation_begun_with}
pub use Rattle.machine_law.specs.Residual.{IsEnd, IsPortOf, capacity, capacity_by, end_label, label_beyond, room}
pub use Rattle.machine_law.specs.States.{IsQuiet, State, opening}
unfoldable pub use Rattle.machine_law.specs.States.{with_value_at}
pub use Rattle.machine_law.specs.Steps.{ActiveRun, IsStateOfActiveRun, IsStateOfRun, ReadsNoZero, Run, Step, advance}
pub use Rattle.machine_law.specs.Steps.{advance_by, after_give, after_give_by, after_label_at, after_look}
pub use Rattle.machine_law.specs.Steps.{after_look_by, after_push, after_push_by, after_raise, after_take, next_event}
pub use Rattle.machine_law.specs.Steps.{next_kind, next_of, push_amount, push_kind, read_kind, read_kind_at}
pub use Rattle.machine_law.specs.Steps.{with_operation}
pub use Rattle.machine_law.specs.Table.{GivesCapacity, GivesExcess, Makes, RaisesLabel, ReadsCapacity, ReadsExcess}
pub use Rattle.machine_law.specs.Table.{ReadsLabel, StepsAreRows, TakesCapacity, TakesExcess}
pub use Rattle.machine_law.specs.Transit.{amount_coming, amount_coming_to_sink, amount_coming_to_source, amount_landing}
pub use Rattle.machine_law.specs.Transit.{amount_landing_by, amount_owed, into_sink, into_sink_by, into_source}
pub use Rattle.machine_law.specs.Transit.{into_source_by, on_way}
unfoldable pub use Rattle.machine_law.specs.Transit.{
  amount_drained,
  amount_given_back,
  inflow_at,
  outflow_at,
  sum_on_way,
}
