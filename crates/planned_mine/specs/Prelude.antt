-- The names of this crate that its proofs and the crates above it use, each from its own file.
pub use Rattle.planned_mine.specs.BesideTexts.{BesideCanCount, ForBeside, IsBesideRead, beside_failures}
pub use Rattle.planned_mine.specs.TextFaults.{BesideFails, IsBeyondTexts, IsTextFault, PricedPeriodsFail, PricesMissing}
pub use Rattle.planned_mine.specs.TextFaults.{StandsInTexts}
pub use Rattle.planned_mine.specs.PlannedNodes.{AreWayFigures, IsExpanded, IsFigured, IsFiguresBy, IsPartFigured}
pub use Rattle.planned_mine.specs.PlannedNodes.{IsSound, IsWholeFigured, used_valued}
pub use Rattle.planned_mine.specs.NodesLines.{nodes_problem_line, nodes_problem_text}
