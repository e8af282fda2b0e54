use Rattle.sub_mines.proofs.Renumbering.{row_by_small}
use Rattle.sub_mines.proofs.laws.row_by_small_mine.Goals as goal

pub returns : goal.returns
returns c = row_by_small
