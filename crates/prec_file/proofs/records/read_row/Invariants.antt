use Rattle.fixed_worth.proofs.Common.{◌≡◌, ◌+◌, ◌≤◌, ◌++◌, false, length, map, vec_capacity, ◌||◌, nat_le, list_all}
use Rattle.fixed_worth.proofs.Common.{list_any}
use Rattle.fixed_worth.specs.declared.limits.TheConstants.{LINE_BYTES}
use Rattle.fixed_worth.specs.Record.{reads, number_of}
use Rattle.prec_file.proofs.records.read_row.Given as goal

-- what is found in what is read, with what is left, is what is found in all
abbrev pub invariant-loop-read : goal.invariant-loop-read
invariant-loop-read l =
    let left = map (λ f. f.text) l.fields in
    let all = map (λ f. f.text) l.fn.fields in
    record {
      good : list_all reads left ≡ list_all reads all;
      known : (l.unknown || list_any (nat_le l.n) (map number_of left))
          ≡ (nat_le l.n l.block || list_any (nat_le l.n) (map number_of all));
      count : l.found + length left ≡ length all;
      few : length all ≤ LINE_BYTES;
      row : l.unknown ≡ false → l.row.items ++ map number_of left ≡ map number_of all;
      within : length l.row.items ≤ l.found;
      room : LINE_BYTES ≤ vec_capacity l.row;
    }

abbrev pub decreases-loop-read : goal.decreases-loop-read
decreases-loop-read l = length l.fields
