-- The names of this crate that its proofs and the crates above it use, each from its own file.
pub use Rattle.production_figures.specs.Figures.{AreComplete, AreFigures, FiguresView, IsWorth, capacity_by}
pub use Rattle.production_figures.specs.Figures.{figures_view, in_row, production_of, uses_by, value_by, worth_by}
