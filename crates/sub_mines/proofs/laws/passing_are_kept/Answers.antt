use Rattle.sub_mines.proofs.Kept.{passing_is_kept}
use Rattle.sub_mines.proofs.laws.passing_are_kept.Goals as goal

pub returns : goal.returns
returns c = passing_is_kept
