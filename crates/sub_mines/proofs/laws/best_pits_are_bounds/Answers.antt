use Rattle.sub_mines.proofs.Bounds.{best_is_floor, best_is_ceiling}
use Rattle.sub_mines.proofs.laws.best_pits_are_bounds.Goals as goal

pub returns : goal.returns
returns c = λ mine later e k r. (best_is_floor mine later e r, best_is_ceiling mine later k r)
