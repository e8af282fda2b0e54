use Rattle.std.proofs.Common.{subst}
use Rattle.sub_mines.specs.AmongGrids.{AreAmong}
use Rattle.sub_mines.proofs.GridParts.{among_is}
use Rattle.sub_mines.proofs.among_grid.AmongGridPrecedence.len.Goals as goal

pub returns-clause-all : goal.returns-clause-all
returns-clause-all c = among_is c.args.self.now (subst AreAmong c.self.view_is c.self.invariant)
