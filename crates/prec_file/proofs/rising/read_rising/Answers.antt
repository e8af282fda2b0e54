use Rattle.fixed_worth.proofs.Common.{arith, err_from_is_err_and, common_steps}
use Rattle.prec_file.proofs.RisingProgress.{rising_begun, rising_on, rising_wrong}
use Rattle.prec_file.proofs.rising.read_rising.Goals as goal

pub loop-line-init : goal.loop-line-init
loop-line-init c = grind (arith, common_steps, rising_begun)

pub returns-in_err-read_rising_line-in-Ok-Some : goal.returns-in_err-read_rising_line-in-Ok-Some
returns-in_err-read_rising_line-in-Ok-Some c =
    let q = rw c.in-Ok-Some.field-0-is at c.in-Ok-Some.ensures in
    let fault = c.in_err-read_rising_line-in-Ok-Some.field-0.0 in
    let p = err_from_is_err_and c.from_residual.result c.from_residual.ensures.1 in
    rw (p.1, p.2) (rising_wrong c.args.n c.number-number.result c.args.text.now c.loop-line.to.rows
    c.loop-line.to.listed c.loop-line.lines c.next_line.new.self c.in-Ok-Some.line.now c.loop-line.invariant.going
    c.number-number.ensures.value q.1 q.2 q.0 fault c.in_err-read_rising_line-in-Ok-Some.ensures)

pub loop-line-preserved : goal.loop-line-preserved
loop-line-preserved c = grind (arith, common_steps, rising_on)
