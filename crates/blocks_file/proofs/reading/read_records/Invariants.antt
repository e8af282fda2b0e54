use Rattle.std.proofs.Common.{◌≡◌, length}
use Rattle.fixed_worth.specs.Record.{lines_in}
use Rattle.blocks_file.proofs.LineAfterLine.{ReadSoFar}
use Rattle.blocks_file.proofs.reading.read_records.Given as goal

abbrev pub invariant-loop-line : goal.invariant-loop-line
invariant-loop-line l = record {
  so_far : ReadSoFar l.n l.columns (lines_in l.text) l.kept.seen.items l.kept.places.items l.kept.values.items l.lines;
  row : length l.row.items ≡ length l.columns;
}

abbrev pub decreases-loop-line : goal.decreases-loop-line
decreases-loop-line l = length l.lines.lines
