-- The names of this crate that its proofs and the crates above it use, each from its own file.
pub use Rattle.upit_file.specs.Body.{IsRecord, before_end, upit_block_fault, body, first_upit_fault, has_value_record}
pub use Rattle.upit_file.specs.Body.{upit_line_fault, upit_record_fault, upit_shape_fault, value_among, value_of_record}
pub use Rattle.upit_file.specs.Header.{after_header, count_at, count_fault, upit_end_fault, ends_header, fields_in}
pub use Rattle.upit_file.specs.Header.{first_count, from_second, header, header_fault, header_line_fault}
pub use Rattle.upit_file.specs.Header.{header_lines_fault, is_eof, is_long, key_fault, key_in, key_of, last_end}
pub use Rattle.upit_file.specs.Header.{last_fault, last_name, name_after, name_fault, name_in, nblocks_of, type_fault}
pub use Rattle.upit_file.specs.Parts.{AreValuesOf, IsPartRead, NoneFrom}
pub use Rattle.upit_file.specs.Records.{DenotesValues, UnlessUpitMemory, UpitView, blocks_declared, declared_of}
pub use Rattle.upit_file.specs.Records.{upit_fault_of, is_name, is_upit, unless_upit_fault, upit_fault_text}
pub use Rattle.upit_file.specs.Records.{upit_value_at}
pub use Rattle.upit_file.specs.Writing.{IsUpitReadBack, header_lines, record_line, record_lines, upit_lines, upit_text}
