use Rattle.std.proofs.Common.{ap, arith, length}
use Rattle.prec_file.proofs.LineDigits.{none_put, one_more_put}
use Rattle.prec_file.proofs.line_text.LineText.put_all.Goals as goal

pub loop-left-init : goal.loop-left-init
loop-left-init c = (none_put c.args.numbers.now c.args.self.now _ (omega arith), omega arith, omega arith)

pub loop-left-preserved : goal.loop-left-preserved
loop-left-preserved c =
    let i = c.loop-left.invariant in
    let some = c.loop-left-test.true in (
      one_more_put c.args.numbers.now c.args.self.now _ _ _ c.loop-left.left (omega (arith, some)) i.1 i.0
          c.put_number.ensures.digits c.put.ensures,
      omega (arith, some, i.1),
      omega (arith, some, i.2, ap length c.put.ensures, c.put_number.ensures.few),
    )
