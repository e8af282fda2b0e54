-- The names of this crate that its proofs and the crates above it use, each from its own file.
pub use Rattle.expanded_mine.specs.Bounds.{IsBound, IsTreatedBound, TheTreatedPitBounds, TheWaitingPitBounds}
pub use Rattle.expanded_mine.specs.Bounds.{treated_by}
pub use Rattle.expanded_mine.specs.Lists.{AreNodePairs, AreNodeWorths}
pub use Rattle.expanded_mine.specs.Nodes.{IsWayOf, charge_by, figures_by, left_by, left_or_none, most_left, most_of}
pub use Rattle.expanded_mine.specs.Nodes.{node_worth, price_by}
pub use Rattle.expanded_mine.specs.Waiting.{is_early, leaving_mine, node_rests, rests_by_wait, treated_mine_of}
pub use Rattle.expanded_mine.specs.Waiting.{waiting_mine, with_waits, withheld}
