use Rattle.fixed_worth.proofs.laws.fields_are_longest_runs.Goals as goal
use Rattle.fixed_worth.proofs.FieldLaws.{fields_are}

pub returns : goal.returns
returns c = fields_are c.args.line.now
