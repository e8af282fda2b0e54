use Rattle.sub_mines.proofs.Kept.{list_image}
use Rattle.sub_mines.proofs.laws.lists_make_images.Goals as goal

pub returns : goal.returns
returns c = list_image
