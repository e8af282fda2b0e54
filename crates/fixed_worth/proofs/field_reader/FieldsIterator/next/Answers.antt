use Rattle.fixed_worth.proofs.Common.{not, arith, prefix_len-le-length, common_steps}
use Rattle.fixed_worth.specs.Text.{is_separator}
use Rattle.fixed_worth.proofs.Cuts.{field_none, field_given}
use Rattle.fixed_worth.proofs.field_reader.FieldsIterator.next.Goals as goal

pub split_at-requires : goal.split_at-requires
split_at-requires c = rw c.gap_length-gap.ensures
    (prefix_len-le-length (λ b. not (not (is_separator b))) c.self.inside.rest.now)

pub returns-then-is_empty-clause-steps : goal.returns-then-is_empty-clause-steps
returns-then-is_empty-clause-steps c = grind (arith, common_steps, field_none)

pub split_at-requires-2 : goal.split_at-requires-2
split_at-requires-2 c = rw c.run_length-width.ensures
    (prefix_len-le-length (λ b. not (is_separator b)) c.split_at.result.1.now)

pub returns-clause-steps : goal.returns-clause-steps
returns-clause-steps c = grind (arith, common_steps, field_given)

pub returns-clause-goes : goal.returns-clause-goes
returns-clause-goes c = grind (arith, common_steps, returns-clause-steps)
