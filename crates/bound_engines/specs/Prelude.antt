-- The names of this crate that its proofs and the crates above it use, each from its own file.
pub use Rattle.bound_engines.specs.Pits.{CertificatesCanCount, ForCertificates, ForPit, IsGiven, IsPartBy, IsPitOf}
pub use Rattle.bound_engines.specs.Pits.{PartView, PitCanCount, certificate_failures, pit_failures, treated_over}
pub use Rattle.bound_engines.specs.Pits.{waits_over}
pub use Rattle.bound_engines.specs.Bounded.{DenotePlan, IsBounded, IsJudgedOf, IsRefusal, IsToldBy, IsToldFor, IsToldIn}
pub use Rattle.bound_engines.specs.Bounded.{IsToldOf, IsToldOver, left_at_most, left_by_way, node_net, nodes_mine}
pub use Rattle.bound_engines.specs.Bounded.{priced_by, treated_nodes}
pub use Rattle.bound_engines.specs.BoundLines.{Bounds, bound_line, told_line, verdict_told}
pub use Rattle.bound_engines.specs.Parts.{IsKeptBy, IsKeptIn, IsKeptPart, IsNoPit, IsPart, IsParted, IsPartedOf}
pub use Rattle.bound_engines.specs.Parts.{IsPitMine, IsPitTold, IsSoundPart, IsToldAt}
