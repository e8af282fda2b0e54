use Rattle.shell_engines.proofs.OneTable.{one_table}
use Rattle.shell_engines.proofs.laws.block_table_is_unique.Goals as goal

pub returns : goal.returns
returns c = one_table
