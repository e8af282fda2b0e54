-- The names of this crate that its proofs and the crates above it use, each from its own file.
pub use Rattle.schedule_value.specs.Bounds.{IsWithin}
pub use Rattle.schedule_value.specs.Breaking.{AreBroken, KeepsLags, breaks, broken_pairs, most_told, period_by}
pub use Rattle.schedule_value.specs.Judging.{IsJudged, JudgedView, judged_view}
pub use Rattle.schedule_value.specs.Overuse.{is_over, over_at, over_if, overs_in_row, overs_in_rows}
