use Rattle.fixed_worth.proofs.Common.{◌+◌, get_or, sym, arith, common_steps}
use Rattle.fixed_worth.proofs.Digits.{next_below, power_fits}
use Rattle.fixed_worth.proofs.FirstNumbers.{one_more, digit_more}
use Rattle.fixed_worth.proofs.first_number.digits_among.Goals as goal

pub overflow_mul-value : goal.overflow_mul-value
overflow_mul-value c =
    let n = next_below c.loop-width.value c.loop-width.width (get_or c.args.text.now c.loop-width.width 0)
    c.loop-width.invariant.small (sym c.if-is_digit_byte.ensures) in
    let p = power_fits (c.loop-width.width + 1)
    (omega (arith, c.requires.within, c.requires.few, c.loop-width-test.true)) in
    omega (arith, n, p)

pub overflow_add-value : goal.overflow_add-value
overflow_add-value c =
    let n = next_below c.loop-width.value c.loop-width.width (get_or c.args.text.now c.loop-width.width 0)
    c.loop-width.invariant.small (sym c.if-is_digit_byte.ensures) in
    let p = power_fits (c.loop-width.width + 1)
    (omega (arith, c.requires.within, c.requires.few, c.loop-width-test.true)) in
    omega (arith, n, p, c.from.ensures)

pub loop-width-preserved : goal.loop-width-preserved
loop-width-preserved c = grind (arith, common_steps, next_below, one_more, digit_more)
