use Rattle.slope.proofs.KeyFinding.{searched_key}
use Rattle.slope.proofs.place_search.found.Goals as goal

pub returns-in-None : goal.returns-in-None
returns-in-None c = searched_key _ _ _ c.binary_search.ensures.bound c.binary_search.ensures.position c.requires
