use Rattle.std.proofs.Common.{◌∙◌}
use Rattle.places.proofs.ListedWays.{pair_found}
use Rattle.places.proofs.listed.PredecessorsPrecedence.has.Goals as goal

pub returns : goal.returns
returns c = c.is_some.ensures ∙ pair_found _ _ _ _ c.find.ensures
