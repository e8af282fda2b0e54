use Rattle.fixed_worth.proofs.Common.{arith, common_steps}
use Rattle.async_step.proofs.Gaps.{gap_none}
use Rattle.async_step.proofs.marks.Marks.gap_at.Goals as goal

pub returns-then-index-eq0-clause-none : goal.returns-then-index-eq0-clause-none
returns-then-index-eq0-clause-none c = grind (arith, common_steps, gap_none)

pub returns-then-index-eq0-2-clause-none : goal.returns-then-index-eq0-2-clause-none
returns-then-index-eq0-2-clause-none c = grind (arith, common_steps, gap_none)

pub returns-then-index-eq0-3-clause-none : goal.returns-then-index-eq0-3-clause-none
returns-then-index-eq0-3-clause-none c = grind (arith, common_steps, gap_none)
