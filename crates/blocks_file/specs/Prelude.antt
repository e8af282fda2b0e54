-- The names of this crate that its proofs and the crates above it use, each from its own file.
pub use Rattle.blocks_file.specs.Denotes.{BlocksView, DenotesModel, IsModel, IsSmallColumn, columns_from, narrowed}
pub use Rattle.blocks_file.specs.Denotes.{origin}
pub use Rattle.blocks_file.specs.Records.{UnlessBlocksMemory, are_there, blocks_block_fault, blocks_fault_text}
pub use Rattle.blocks_file.specs.Records.{columns_of, coordinate_read, early_fault, blocks_fault_of, first_blocks_fault}
pub use Rattle.blocks_file.specs.Records.{has_place_record, head_reads, in_range, is_bad, long_fault, many_fault}
pub use Rattle.blocks_file.specs.Records.{place_at, place_of_record, record_among, record_count_of, blocks_record_fault}
pub use Rattle.blocks_file.specs.Records.{record_line_numbers, blocks_shape_fault, value_in}
pub use Rattle.blocks_file.specs.RowReading.{AreFilled, AreKept, ArePut, AreTaken, HoldsValues, IsRow}
