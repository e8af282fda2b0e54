use Rattle.fixed_worth.proofs.Common.{arith, common_steps}
use Rattle.fixed_worth.proofs.NextLine.{Next}
use Rattle.upit_file.proofs.BodyLines.{passes, keeps}
use Rattle.upit_file.proofs.body.read_body.Goals as goal

pub loop-text-preserved-in-Skipped : goal.loop-text-preserved-in-Skipped
loop-text-preserved-in-Skipped c =
    let q = rw c.in-Ok-Some.field-0-is at c.in-Ok-Some.ensures in
    let r = rw c.in-Skipped.is at c.in_ok-read_record-in-Ok-Some.ensures in
    let h : Next c.loop-text.lines c.next_line.new.self c.number-line.result c.in-Ok-Some.text.now = record
    { lines = q.1; number = q.2; same = c.number-line.ensures.value; small = q.0 } in
    passes _ _ _ _ _ _ _ _ c.loop-text.invariant h r.1 r.0

pub loop-text-preserved : goal.loop-text-preserved
loop-text-preserved c = grind (arith, common_steps, keeps)
