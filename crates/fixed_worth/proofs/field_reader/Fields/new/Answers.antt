use Rattle.fixed_worth.proofs.Cuts.{few_runs}
use Rattle.fixed_worth.proofs.field_reader.Fields.new.Goals as goal

pub returns-clause-few : goal.returns-clause-few
returns-clause-few c = few_runs _ c.args.line.now
