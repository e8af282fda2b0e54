use Rattle.fixed_worth.proofs.Common.{◌++◌, arith, common_steps}
use Rattle.fixed_worth.specs.Numeral.{value_of}
use Rattle.fixed_worth.proofs.Digits.{overflows, carried, value_of-append, front_too_large}
use Rattle.fixed_worth.proofs.decimals.mantissa.Goals as goal

pub returns-in_err-all : goal.returns-in_err-all
returns-in_err-all c = rw c.from_residual.ensures
    (front_too_large c.args.whole.now c.args.fraction.now c.in_err-all.ensures)

pub loop-b-init : goal.loop-b-init
loop-b-init c = grind (arith, common_steps, value_of-append)

pub returns-in_err-all-2 : goal.returns-in_err-all-2
returns-in_err-all-2 c = rw c.from_residual-in_err-all-2.ensures
    (overflows c.loop-b.all c.loop-b.b-index (value_of (c.args.whole.now ++ c.args.fraction.now)) c.args.fraction.now
    c.loop-b-test.true c.loop-b.invariant.whole c.in_err-all-2.ensures)

pub loop-b-preserved : goal.loop-b-preserved
loop-b-preserved c = record {
  whole = carried c.loop-b.all c.in_ok-all-2.all c.loop-b.b-index (value_of (c.args.whole.now ++ c.args.fraction.now))
      c.args.fraction.now c.loop-b-test.true c.loop-b.invariant.whole c.in_ok-all-2.ensures.1;
  fits = omega (arith, c.in_ok-all-2.ensures);
}
