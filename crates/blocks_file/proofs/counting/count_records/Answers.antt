use Rattle.std.proofs.Common.{sym, ◌∙◌}
use Rattle.fixed_worth.specs.declared.limits.TheConstants.{MOST_BLOCKS}
use Rattle.fixed_worth.specs.Record.{lines_in}
use Rattle.fixed_worth.proofs.NextLine.{Next}
use Rattle.blocks_file.proofs.Counts.{passes, is_extra, is_counted}
use Rattle.blocks_file.proofs.counting.count_records.Goals.{then-count, else-count}
use Rattle.blocks_file.proofs.counting.count_records.Goals as goal
use Rattle.fixed_worth.proofs.Bits.{not_true, not_false}

pub loop-line-preserved-then-is_record : goal.loop-line-preserved-then-is_record
loop-line-preserved-then-is_record c =
    let q = rw c.in-Ok-Some.field-0-is at c.in-Ok-Some.ensures in
    let h : Next c.loop-line.lines c.next_line.new.self c.number-number.result c.in-Ok-Some.line.now = record
    { lines = q.1; number = q.2; same = c.number-number.ensures.value; small = q.0 } in
    let s = not_true _ (sym c.is_record.ensures ∙ c.if-is_record.true) in
    elim c.if-count.branch [
      | then-count w ↦ rw w.extra-is
          (is_extra (lines_in c.args.text.now) MOST_BLOCKS c.loop-line.count c.loop-line.extra c.loop-line.lines
          c.next_line.new.self c.number-number.result c.in-Ok-Some.line.now c.loop-line.invariant h s w.if-count.true)
      | else-count w ↦ rw w.extra-is
          (is_counted (lines_in c.args.text.now) MOST_BLOCKS c.loop-line.count c.loop-line.extra c.loop-line.lines
          c.next_line.new.self c.number-number.result c.in-Ok-Some.line.now c.loop-line.invariant h s w.if-count.false)
    ]

pub loop-line-preserved : goal.loop-line-preserved
loop-line-preserved c =
    let q = rw c.in-Ok-Some.field-0-is at c.in-Ok-Some.ensures in
    let h : Next c.loop-line.lines c.next_line.new.self c.number-number.result c.in-Ok-Some.line.now = record
    { lines = q.1; number = q.2; same = c.number-number.ensures.value; small = q.0 } in
    let s = not_false _ (sym c.is_record.ensures ∙ c.if-is_record.false) in
    passes (lines_in c.args.text.now) MOST_BLOCKS c.loop-line.count c.loop-line.extra c.loop-line.lines
    c.next_line.new.self c.number-number.result c.in-Ok-Some.line.now c.loop-line.invariant h s
