use Rattle.sub_mines.proofs.Together.{part_of_best}
use Rattle.sub_mines.proofs.laws.part_of_best_pit.Goals as goal

pub returns : goal.returns
returns c = part_of_best
