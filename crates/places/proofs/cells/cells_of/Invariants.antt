use Rattle.places.specs.Grids.{AreCells}
use Rattle.places.proofs.cells.cells_of.Given as goal

abbrev pub invariant-loop-b : goal.invariant-loop-b
invariant-loop-b l = AreCells l.fn.lows l.fn.centre l.fn.count l.b l.cells.items
