use Rattle.fixed_worth.proofs.Common.{◌++◌, sym, ap, ◌∙◌, arith, append-nil, drop_all, decimal, length-decimal-le_wide}
use Rattle.fixed_worth.proofs.DigitsFromEnd.{starts_above, written_before, all_written}
use Rattle.fixed_worth.proofs.written_number.WrittenNumber.set.Goals as goal

pub loop-wide-init : goal.loop-wide-init
loop-wide-init c =
    record {
      whole = sym (append-nil (decimal c.args.n))
          ∙ ap (λ r. decimal c.args.n ++ r) (sym (drop_all 39 c.self.inside.bytes (omega (arith, c.self.told))));
      room = length-decimal-le_wide 39 c.args.n (omega arith) (omega arith) (omega arith);
      small = omega arith;
      within = omega arith;
      size = c.self.told;
    }

pub overflow_sub-start : goal.overflow_sub-start
overflow_sub-start c = starts_above _ _ _ _ c.loop-wide.invariant

pub loop-wide-preserved : goal.loop-wide-preserved
loop-wide-preserved c = written_before _ _ _ _ c.loop-wide.invariant (omega arith)

pub overflow_sub-start-in-loop-left : goal.overflow_sub-start-in-loop-left
overflow_sub-start-in-loop-left c = starts_above _ _ _ _ c.loop-left.invariant

pub loop-left-preserved : goal.loop-left-preserved
loop-left-preserved c = written_before _ _ _ _ c.loop-left.invariant c.loop-left-test.true

pub overflow_sub-start-2 : goal.overflow_sub-start-2
overflow_sub-start-2 c = starts_above _ _ _ _ c.loop-left.invariant

pub returns-clause-digits : goal.returns-clause-digits
returns-clause-digits c = all_written _ _ _ _ c.loop-left.invariant c.loop-left-test.false
