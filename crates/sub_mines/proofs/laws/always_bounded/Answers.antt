use Rattle.sub_mines.proofs.Bounds.{none_is_floor, all_is_ceiling}
use Rattle.sub_mines.proofs.laws.always_bounded.Goals as goal

pub returns : goal.returns
returns c = λ mine. (none_is_floor mine, all_is_ceiling mine)
