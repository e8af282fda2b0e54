use Rattle.fixed_worth.proofs.Common.{◌∙◌, arith, common_steps}
use Rattle.prec_file.proofs.PartProgress.{part_begun, part_further}
use Rattle.prec_file.proofs.part_reading.read_part.Goals as goal

pub loop-line-init : goal.loop-line-init
loop-line-init c = grind (arith, common_steps, part_begun)

pub loop-line-preserved : goal.loop-line-preserved
loop-line-preserved c =
    let q = rw c.in-Ok-Some.field-0-is at c.in-Ok-Some.ensures in
    let r = c.in-Ok-true.ensures c.in-Ok-true.field-0-test in
    record {
      going = part_further c.args.n c.first_block-from.result c.number-number.result c.args.text.now
          c.in-Ok-Some.line.now c.loop-line.to.rows c.read_rising_line.new.to.rows c.loop-line.to.listed
          c.read_rising_line.new.to.listed
          c.loop-line.lines c.next_line.new.self c.loop-line.invariant.going q.1 q.0 r.0;
      blocks = r.0.blocks ∙ c.loop-line.invariant.blocks;
      few = r.0.few;
      kept = r.0.kept;
      room = r.1;
    }
