use Rattle.std.proofs.Common.{◌≡◌, ◌++◌, take}
use Rattle.fixed_worth.specs.Prelude.{with_line_feeds}
use Rattle.counted_devices.specs.Prelude.{SentOrHeld}
use Rattle.upit_file.specs.Writing.{record_lines}
use Rattle.upit_file.proofs.writing.put_records.Given as goal

abbrev pub invariant-loop-value : goal.invariant-loop-value
invariant-loop-value g l = record {
  block_so : l.block ≡ l.value-index;
  held : SentOrHeld (g.W.Write.contents l.initial.out) (g.W.Write.contents l.out) l.page
      (l.initial.page ++ with_line_feeds (record_lines 0 (take l.value-index l.values)));
  kept : g.W.CountedWrite.failed l.out ≡ g.W.CountedWrite.failed l.initial.out;
}
