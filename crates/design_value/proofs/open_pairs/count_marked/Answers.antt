use Rattle.std.proofs.Common.{◌≤◌, Bool, true, false, cond, arith}
use Rattle.ordered_group.specs.ScaledProofs.{count_in-most}
use Rattle.design_value.specs.Sums.{marked_in}
use Rattle.design_value.proofs.open_pairs.count_marked.Goals as goal

bit : (t : Bool) → cond t 1 0 ≤ 1
bit true = omega arith
bit false = omega arith

pub overflow_add-count : goal.overflow_add-count
overflow_add-count c = omega (
  arith,
  c.loop-b.invariant,
  count_in-most (marked_in c.args.marks.now) c.loop-b.b,
  bit
      (marked_in c.args.marks.now c.loop-b.b),
  c.one_if-count.ensures,
)
