use Rattle.machine_law.proofs.Rows.{steps_are_rows}
use Rattle.machine_law.proofs.laws.steps_are_rows_of_the_table.Goals as goal

pub returns : goal.returns
returns c = steps_are_rows
