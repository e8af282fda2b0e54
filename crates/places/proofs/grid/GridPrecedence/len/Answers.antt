use Rattle.std.proofs.Common.{subst}
use Rattle.places.specs.Grids.{IsGrid}
use Rattle.places.proofs.GridWays.{gridded_is}
use Rattle.places.proofs.grid.GridPrecedence.len.Goals as goal

pub returns-clause-all : goal.returns-clause-all
returns-clause-all c = gridded_is c.args.self.now (subst IsGrid c.self.view_is c.self.invariant)
