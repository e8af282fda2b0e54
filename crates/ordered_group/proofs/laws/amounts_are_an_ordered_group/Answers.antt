use Rattle.ordered_group.proofs.Algebra.{ordered_group}
use Rattle.ordered_group.proofs.laws.amounts_are_an_ordered_group.Goals as goal

pub returns : goal.returns
returns c = ordered_group
