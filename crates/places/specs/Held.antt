-- What is shown by a list or a grid, whichever a mine has.
use Rattle.prec_file.specs.Rests.{RestsView}
use Rattle.places.specs.Ways.{PrecedenceView, listed}
use Rattle.places.specs.Implied.{implied}
use Rattle.places.specs.Grids.{gridded}
use Rattle.places.specs.declared.holders.Held.{Held}
use Rattle.places.specs.declared.holders.Held.TheVariants as held

-- the list of pairs: the one that is held, or the one that the grid denotes
abbrev pub pairs_held : Held → RestsView
pairs_held (held.Listed list) = list
pairs_held (held.Placed grid) = implied (gridded grid)

-- who precedes whom
abbrev pub shown : Held → PrecedenceView
shown (held.Listed list) = listed list
shown (held.Placed grid) = gridded grid
