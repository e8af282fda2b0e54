-- The names of this crate that its proofs and the crates above it use, each from its own file.
pub use Rattle.fixed_worth.specs.Decimal.{decimal_of, digits_in, exponent_digits, first_decimal, is_decimal}
pub use Rattle.fixed_worth.specs.Decimal.{is_too_long, mantissa_of, millionths_of, most, value_read}
unfoldable pub use Rattle.fixed_worth.specs.Decimal.{
  exponent_of,
  fraction_part,
  has_mark,
  is_mark,
  is_point,
  rounded_of,
  whole_part,
}
pub use Rattle.fixed_worth.specs.FaultText.{at_line, number_fault_name, text_fault_name}
pub use Rattle.fixed_worth.specs.Front.{BeginsWithField, BeginsWithFraction, MayFollow}
pub use Rattle.fixed_worth.specs.Laws.{AreFields, AreInOrder, AreLines, HasOneSpelling, IsField, LiesIn}
pub use Rattle.fixed_worth.specs.Laws.{with_last_line_feed, with_line_feeds}
pub use Rattle.fixed_worth.specs.Numeral.{begins_above_zero, below, digits_of, is_digit, is_minus, is_number}
pub use Rattle.fixed_worth.specs.Numeral.{unsigned_of, value_of, with_sign}
unfoldable pub use Rattle.fixed_worth.specs.Numeral.{is_plain, plain_of, signed_of, whole_of}
pub use Rattle.fixed_worth.specs.Printed.{digit_before, fixed_width, without_trailing_zeros}
unfoldable pub use Rattle.fixed_worth.specs.Printed.{amount_text, fraction_text}
pub use Rattle.fixed_worth.specs.Record.{Line, block_of, first_whole, has, is_record_of, is_remark, is_skipped}
pub use Rattle.fixed_worth.specs.Record.{lines_in, number_of, numbered_lines, reads}
pub use Rattle.fixed_worth.specs.Text.{BeginsTooLong, Left, WordRun, fields_of, lines_of, parts, run_before, runs_from}
unfoldable pub use Rattle.fixed_worth.specs.Text.{is_separator}
