use Rattle.sub_mines.proofs.Bounds.{between_by_best}
use Rattle.sub_mines.proofs.laws.known_by_best.Goals as goal

pub returns : goal.returns
returns c = between_by_best
