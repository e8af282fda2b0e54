use Rattle.sub_mines.proofs.Together.{best_by_small_mine}
use Rattle.sub_mines.proofs.laws.best_pit_by_small_mine.Goals as goal

pub returns : goal.returns
returns c = best_by_small_mine
