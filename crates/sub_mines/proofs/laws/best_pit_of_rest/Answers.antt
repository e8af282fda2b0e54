use Rattle.sub_mines.proofs.Together.{best_of_rest}
use Rattle.sub_mines.proofs.laws.best_pit_of_rest.Goals as goal

pub returns : goal.returns
returns c = best_of_rest
