use Rattle.fixed_worth.proofs.Common.{◌+◌, ◌*◌, below_more, get_or, sym, arith, common_steps}
use Rattle.fixed_worth.specs.Numeral.{value_of}
use Rattle.fixed_worth.proofs.Digits.{next_below, power_fits, all_digits, carried, finished}
use Rattle.fixed_worth.proofs.numerals.short_value.Goals as goal

pub overflow_mul-all : goal.overflow_mul-all
overflow_mul-all c =
    let n = next_below c.loop-b.all c.loop-b.b-index (get_or c.args.text.now c.loop-b.b-index 0)
    c.loop-b.invariant.small (sym c.if-not-is_digit_byte.ensures) in
    let p = power_fits (c.loop-b.b-index + 1) (omega arith) in
    omega (arith, n, p)

pub overflow_add-all : goal.overflow_add-all
overflow_add-all c =
    let n = next_below c.loop-b.all c.loop-b.b-index (get_or c.args.text.now c.loop-b.b-index 0)
    c.loop-b.invariant.small (sym c.if-not-is_digit_byte.ensures) in
    let p = power_fits (c.loop-b.b-index + 1) (omega arith) in
    omega (arith, n, p, c.from.ensures)

pub loop-b-preserved : goal.loop-b-preserved
loop-b-preserved c =
    let n = next_below c.loop-b.all c.loop-b.b-index (get_or c.args.text.now c.loop-b.b-index 0)
    c.loop-b.invariant.small (sym c.if-not-is_digit_byte.ensures) in
    record {
      whole = carried c.loop-b.all (c.loop-b.all * 10 + c.from.result) c.loop-b.b-index (value_of c.args.text.now)
          c.args.text.now c.loop-b-test.true c.loop-b.invariant.whole (omega (arith, c.from.ensures));
      small = omega (arith, n, c.from.ensures);
      digits = below_more _ _ c.loop-b.invariant.digits (sym c.if-not-is_digit_byte.ensures);
    }

pub returns : goal.returns
returns c = grind (arith, common_steps, all_digits, finished)
