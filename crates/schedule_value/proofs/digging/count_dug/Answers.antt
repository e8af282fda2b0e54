use Rattle.std.proofs.Common.{◌≤◌, Bool, true, false, cond, nat_lt, arith}
use Rattle.ordered_group.specs.ScaledProofs.{count_in-most}
use Rattle.schedule_value.specs.Prelude.{period_by}
use Rattle.schedule_value.proofs.digging.count_dug.Goals as goal

bit : (t : Bool) → cond t 1 0 ≤ 1
bit true = omega arith
bit false = omega arith

pub overflow_add-count : goal.overflow_add-count
overflow_add-count c = omega (
  arith,
  c.loop-b.invariant,
  count_in-most (λ b. nat_lt (period_by c.args.schedule.now b) c.args.periods)
      c.loop-b.b,
  bit (nat_lt (period_by c.args.schedule.now c.loop-b.b) c.args.periods),
  c.one_if_dug-count.ensures,
)
