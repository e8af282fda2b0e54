use Rattle.std.proofs.Common.{◌≡◌, ◌+◌, ◌≤◌, length, map, drop}
use Rattle.fixed_worth.specs.declared.limits.TheConstants.{LINE_BYTES}
use Rattle.blocks_file.specs.RowReading.{IsRow}
use Rattle.blocks_file.proofs.row.read_row.Given as goal

abbrev pub invariant-loop-field : goal.invariant-loop-field
invariant-loop-field l =
    let left = map (λ f. f.text) l.field-iterator in
    let all = map (λ f. f.text) l.fn.fields in
    record {
      count : l.column + length left ≡ length all;
      few : length all ≤ LINE_BYTES;
      rest : left ≡ drop l.column all;
      row : IsRow l.columns all l.column l.row;
    }
