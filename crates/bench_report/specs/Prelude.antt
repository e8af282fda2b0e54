-- The names of this crate that its proofs and the crates above it use, each from its own file.
pub use Rattle.bench_report.specs.Benches.{IsBenchRow, IsBenchTable, ReportedBlocks, TablesAreOne, bench_and_shell}
pub use Rattle.bench_report.specs.Benches.{blocks_at, by_bench, is_shell, reported_blocks}
pub use Rattle.bench_report.specs.BlockShells.{block_lines, block_shell_line, block_table_text, block_way_line}
pub use Rattle.bench_report.specs.BlockShells.{block_way_lines, block_way_table_text, blocks_text, names_line}
pub use Rattle.bench_report.specs.BlockShells.{shell_field, way_field, way_if_held, way_names_line}
pub use Rattle.bench_report.specs.Faults.{AllSumsFit, BenchSumsFit, ReportFaultStands, SameLengths}
pub use Rattle.bench_report.specs.Faults.{SomeBenchSumOverflows, report_fault_text, report_write_fault_text}
pub use Rattle.bench_report.specs.GrowingRows.{AddFaultStands, IsTallied, RowTakesBlock, TallyFaultStands, if_filled}
pub use Rattle.bench_report.specs.GrowingRows.{no_blocks, row_at, row_below, with_block}
pub use Rattle.bench_report.specs.Written.{IsReady, fields_line, header_line, row_line, rows_text, table_text}
pub use Rattle.bench_report.specs.Written.{written_bytes}
pub use Rattle.bench_report.specs.WayTonnes.{AreTonnesOf, WaysAddUp, bench_text, goes_way, is_treated, no_row}
pub use Rattle.bench_report.specs.WayTonnes.{row_front, tonnes_at, tonnes_by_way, tonnes_fields, treated_tonnes}
pub use Rattle.bench_report.specs.WayTonnes.{way_count, way_header, way_names, way_row_line, way_rows_text}
pub use Rattle.bench_report.specs.WayTonnes.{way_table_text, way_tonnes}
