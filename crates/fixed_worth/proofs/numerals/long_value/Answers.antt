use Rattle.std.proofs.Common.{arith}
use Rattle.fixed_worth.specs.Numeral.{value_of}
use Rattle.fixed_worth.proofs.Digits.{overflows, carried}
use Rattle.fixed_worth.proofs.numerals.long_value.Goals as goal

pub returns-in_err-all : goal.returns-in_err-all
returns-in_err-all c = rw c.from_residual.ensures
    (overflows c.loop-b.all c.loop-b.b-index (value_of c.args.text.now) c.args.text.now c.loop-b-test.true
    c.loop-b.invariant.whole c.in_err-all.ensures)

pub loop-b-preserved : goal.loop-b-preserved
loop-b-preserved c = record {
  whole = carried c.loop-b.all c.in_ok-all.all c.loop-b.b-index (value_of c.args.text.now) c.args.text.now
      c.loop-b-test.true c.loop-b.invariant.whole c.in_ok-all.ensures.1;
  fits = omega (arith, c.in_ok-all.ensures);
}
