use Rattle.sub_mines.proofs.Parts.{best_by_part}
use Rattle.sub_mines.proofs.laws.best_pit_by_part.Goals as goal

pub returns : goal.returns
returns c = best_by_part
