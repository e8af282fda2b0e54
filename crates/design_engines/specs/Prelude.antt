-- The names of this crate that its proofs and the crates above it use, each from its own file.
pub use Rattle.design_engines.specs.Compares.{ComparisonFails, CompareAtFault, CompareFails, ComparesDesign, GapLeaves}
pub use Rattle.design_engines.specs.Compares.{IsBeside, WritesComparedPrefix}
pub use Rattle.design_engines.specs.Comparisons.{ComparedView, IsComparedDesign, IsComparison, IsDrawn, beside}
pub use Rattle.design_engines.specs.Comparisons.{best_line, compared_design_text, compared_design_verdict, unproved}
pub use Rattle.design_engines.specs.DesignTexts.{DesignFails, DesignReadFails, IsDesign, ReadsDesign}
pub use Rattle.design_engines.specs.Designs.{DesignView, IsValued, design_text, needs_line, needs_text, open_text}
pub use Rattle.design_engines.specs.Designs.{verdict_for}
pub use Rattle.design_engines.specs.Told.{design_view}
pub use Rattle.design_engines.specs.Values.{NoValue, ValueAtFault, ValueFails, Values, WorthLeaves, WritesValuePrefix}
