-- The names of this crate that its proofs and the crates above it use, each from its own file.
pub use Rattle.certificate_file.specs.BodyLines.{amount_in, amount_said, block_line, body_fault, cert_end_fault}
pub use Rattle.certificate_file.specs.BodyLines.{end_line, fault_from, in_model, in_order, is_above, is_amount, is_end}
pub use Rattle.certificate_file.specs.BodyLines.{is_of_model, line_kind_of, line_after, line_of, line_of_words}
pub use Rattle.certificate_file.specs.BodyLines.{line_with, lines_from, lines_of_pieces, may_follow, next_line}
pub use Rattle.certificate_file.specs.BodyLines.{numbered_line, pit_line, rank, rest_line}
pub use Rattle.certificate_file.specs.Certificate.{Covers, DenotesFlow, IsRead, UnlessCertMemory, amount_of}
pub use Rattle.certificate_file.specs.Certificate.{block_if_pit, body_of, cert_fault_after, cert_fault_of}
pub use Rattle.certificate_file.specs.Certificate.{cert_fault_text, given_amount, gives_rest, gives_sink, gives_source}
pub use Rattle.certificate_file.specs.Certificate.{is_rest, is_sink, is_source, lines_of_text, pit_of, wanted_for}
pub use Rattle.certificate_file.specs.Gathered.{Adds, Gathered, with_rest}
pub use Rattle.certificate_file.specs.Header.{blocks_in, blocks_said, factor_of, group_in, group_named, group_said}
pub use Rattle.certificate_file.specs.Header.{header_for, header_of, mill_of, mill_said, or_number, price_in}
pub use Rattle.certificate_file.specs.Header.{price_said, value_after, value_after_both, version_in, wanted_blocks}
pub use Rattle.certificate_file.specs.Header.{wanted_group, ◌>>=◌}
pub use Rattle.certificate_file.specs.Pieces.{IsPieceRead, Piece, Unread, in_line, number_below, onto_piece, piece_at}
pub use Rattle.certificate_file.specs.Pieces.{piece_fault, pieces_of, read_line, unless_cert_fault, whole_below}
pub use Rattle.certificate_file.specs.Pieces.{words_of}
pub use Rattle.certificate_file.specs.ReadBack.{AreWritable, IsPrice, IsCertReadBack, Writable}
pub use Rattle.certificate_file.specs.Written.{amount_lines, blocks_named, body_text, certificate_bytes, end_text}
pub use Rattle.certificate_file.specs.Written.{flow_lines, header_with, header_words, line_at, line_of_block}
pub use Rattle.certificate_file.specs.Written.{line_words, lines_text, pair_at, pit_at, price_words, spaced_words}
pub use Rattle.certificate_file.specs.Written.{text_of, value_lines, version_for, version_word, words_with}
