use Rattle.sub_mines.proofs.Together.{best_within}
use Rattle.sub_mines.proofs.laws.best_pit_within.Goals as goal

pub returns : goal.returns
returns c = best_within
