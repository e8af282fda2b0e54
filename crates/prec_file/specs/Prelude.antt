-- The names of this crate that its proofs and the crates above it use, each from its own file.
pub use Rattle.prec_file.specs.Indexes.{AreAbove, AreNew, AreRows, IsFilled, IsIndexed, IsLineRead, IsRecordOf}
pub use Rattle.prec_file.specs.Indexes.{IsStarts, TellsFault, block_at, end_at, marks_after, pairs_by, rows_from, slot}
pub use Rattle.prec_file.specs.Parts.{AreRowsAdded, IsPartRead, blocks_listed, pairs_listed}
pub use Rattle.prec_file.specs.Records.{UnlessMemory, blocks_of, blocks_of_fields, fault_after, fault_of, first_fault}
pub use Rattle.prec_file.specs.Records.{line_fault, pairs_in, pairs_of, pairs_of_text, predecessor_count_of}
pub use Rattle.prec_file.specs.Records.{predecessors_of, record_fault}
unfoldable pub use Rattle.prec_file.specs.Records.{history_fault, shape_fault}
pub use Rattle.prec_file.specs.Rests.{AreApart, ArePairsOf, Before, IsFirstNot, IsKnown, IsOfBlock, IsRests, IsRising}
pub use Rattle.prec_file.specs.Rests.{IsRowAdded, KnownAt, RestsView, RowsView, above_of, below_of, count_ending_below}
pub use Rattle.prec_file.specs.Rests.{first_of, from_at, has_pair, numbers, numbers_passing, to_at}
pub use Rattle.prec_file.specs.Written.{AreNarrow, IsNarrowAt, ReadsBack, WriteFaultStands, lines_below, prec_line}
pub use Rattle.prec_file.specs.Written.{prec_text, spaced_numbers}
