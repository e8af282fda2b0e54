-- The text of a bench table.
use Rattle.std.specs.Prelude.{◌≡◌, ℕ, ℤ, false, List, [], ◌∷◌, ◌++◌, codes, Vec}
use Rattle.std.specs.declared.alloc.Global.{Global}
use Rattle.std.specs.Fmt.{decimal, signed_decimal}
use Rattle.csv.specs.declared.writer.Writer.{Writer}
use Rattle.csv.specs.Writing.{default_writer, writer_setup, fields_written, has_written, writer_under, writer_pending}
use Rattle.fixed_worth.specs.Printed.{amount_text}
use Rattle.bench_report.specs.declared.bench_row.BenchRow.{BenchRow}

-- the names of the columns
abbrev pub header_line : List ℕ
header_line = codes "z,shell,blocks,tonnes,worth\n"

-- the numbers of a row with commas (44) between them, and a line feed (10): tonnes with at most six places, worth with
-- at most nine
abbrev pub fields_line : ℤ → ℕ → ℕ → ℤ → ℤ → List ℕ
fields_line z shell blocks tonnes worth = signed_decimal z ++ 44
    ∷ (decimal shell ++ 44 ∷ (decimal blocks ++ 44 ∷ (amount_text 6 tonnes ++ 44 ∷ (amount_text 9 worth ++ 10 ∷ []))))

abbrev pub row_line : BenchRow → List ℕ
row_line r = fields_line r.z r.shell r.blocks r.tonnes r.worth

-- a line for each row
abbrev pub rows_text : List BenchRow → List ℕ
rows_text [] = []
rows_text (r ∷ rs) = row_line r ++ rows_text rs

-- the names of the columns, and the rows
abbrev pub table_text : List BenchRow → List ℕ
table_text rs = header_line ++ rows_text rs

-- between two records: the writer is as it is made, or as it is after a whole record
pub record IsReady (w : Writer (Vec ℕ Global)) : Type 0 where
  pub setup : writer_setup w ≡ default_writer
  pub fields : fields_written w ≡ 0
  pub wrote : has_written w ≡ false

-- the bytes that a writer was given: those that its vector has, and those that wait
abbrev pub written_bytes : Writer (Vec ℕ Global) → List ℕ
written_bytes w = (writer_under w).items ++ writer_pending w
