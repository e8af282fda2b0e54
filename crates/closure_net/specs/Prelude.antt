-- The names of this crate that its proofs and the crates above it use, each from its own file.
pub use Rattle.closure_net.specs.Closure.{IsClosed, IsGreatest, Stays, group_worth}
pub use Rattle.closure_net.specs.Faults.{BlockOverflows, NetFaultStands, OppositeOverflows, OppositesFit, PositivesFit}
pub use Rattle.closure_net.specs.Faults.{PositivesOverflow, WorthsFaultStands, WorthsFit, WorthsOverflow}
pub use Rattle.closure_net.specs.Faults.{net_fault_text}
pub use Rattle.closure_net.specs.Flows.{IsBalancedAt, IsFlow, IsGreatestFlow, IsTight, NoneNegative, Within, WithinAt}
pub use Rattle.closure_net.specs.Flows.{inflow, outflow, residual_at, source_residual}
pub use Rattle.closure_net.specs.Mine.{AreSame, IsBest, IsNetOf, IsPit, IsRichest, LiesWithin, Mine, RestsWithin}
pub use Rattle.closure_net.specs.Mine.{RisesTo, block_count_of, worth_of}
pub use Rattle.closure_net.specs.Network.{FlowFits, FlowView, IsAscending, IsNet, IsNetParts, NetView, flow_view}
pub use Rattle.closure_net.specs.Network.{holds_of, net_view}
pub use Rattle.closure_net.specs.Ports.{backward_port, backward_ports, forward_port, forward_ports, is_below, ports}
pub use Rattle.closure_net.specs.Ports.{sink_port, source_port}
unfoldable pub use Rattle.closure_net.specs.Ports.{port_list}
pub use Rattle.closure_net.specs.Reached.{Carries, HasSourceResidual, IsReached, Reaches}
pub use Rattle.closure_net.specs.Searches.{Always, Extends, IsSearch, PassedPlaces, SearchView, SendsAt, StandsBelow}
pub use Rattle.closure_net.specs.Searches.{StandsFrom, above_at, list_with, sender_at, trues}
