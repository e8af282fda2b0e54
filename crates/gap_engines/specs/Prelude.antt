-- The names of this crate that its proofs and the crates above it use, each from its own file.
pub use Rattle.gap_engines.specs.GapTexts.{ComparedFails}
pub use Rattle.gap_engines.specs.Gaps.{IsBelow, IsCompared, IsComparedBy}
pub use Rattle.gap_engines.specs.GapLines.{Compares, WritesBelow, WritesPitRefused, WritesUnbounded, compared_text}
pub use Rattle.gap_engines.specs.GapLines.{compared_verdict, gap_line, gap_text}
