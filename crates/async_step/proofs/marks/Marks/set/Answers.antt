use Rattle.fixed_worth.proofs.Common.{length, arith, ap, common_steps}
use Rattle.async_step.proofs.Counts.{level_can_shift, all_can_shift, marks_set, differ}
use Rattle.async_step.proofs.marks.Marks.set.Goals as goal

pub count_after_shift-requires : goal.count_after_shift-requires
count_after_shift-requires c = level_can_shift _ _ _ _ _ _ _ (omega (arith, c.requires, ap length c.self.view_is))
    c.index.ensures (differ _ _ c.if-index-marked.false) (omega arith) (omega arith) c.self.invariant.small
    c.index-2.ensures

pub count_after_shift-requires-2 : goal.count_after_shift-requires-2
count_after_shift-requires-2 c = level_can_shift _ _ _ _ _ _ _ (omega (arith, c.requires, ap length c.self.view_is))
    c.index.ensures (differ _ _ c.if-index-marked.false) (omega arith) (omega arith) c.self.invariant.middle
    c.index-3.ensures

pub count_after_shift-requires-3 : goal.count_after_shift-requires-3
count_after_shift-requires-3 c = level_can_shift _ _ _ _ _ _ _ (omega (arith, c.requires, ap length c.self.view_is))
    c.index.ensures (differ _ _ c.if-index-marked.false) (omega arith) (omega arith) c.self.invariant.large
    c.index-4.ensures

pub count_after_shift-self-inside-requires : goal.count_after_shift-self-inside-requires
count_after_shift-self-inside-requires c = grind (arith, common_steps, all_can_shift, differ)

pub invariant_of-self : goal.invariant_of-self
invariant_of-self c =
    marks_set _ _ _ _ _ _ _ _ _ _ _ _ _ _ _ c.self.invariant (omega (arith, c.requires, ap length c.self.view_is))
    c.index.ensures (differ _ _ c.if-index-marked.false) c.index-2.ensures
    c.count_after_shift.ensures c.index-3.ensures c.count_after_shift-2.ensures c.index-4.ensures
    c.count_after_shift-3.ensures c.count_after_shift-self-inside.ensures
