use Rattle.sub_mines.proofs.Together.{best_between_best}
use Rattle.sub_mines.proofs.laws.best_pit_between.Goals as goal

pub returns : goal.returns
returns c = best_between_best
