use Rattle.sub_mines.proofs.Renumbering.{best_image}
use Rattle.sub_mines.proofs.laws.best_pit_by_numbers.Goals as goal

pub returns : goal.returns
returns c = λ mine small set at s t own listed is. best_image mine small set at own listed is s t
