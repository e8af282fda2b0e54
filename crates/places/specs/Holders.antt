-- What a list, a grid and nodes show, whichever is lent.
use Rattle.prec_file.specs.Rests.{RestsView}
use Rattle.places.specs.Ways.{PrecedenceView, listed}
use Rattle.places.specs.Implied.{implied}
use Rattle.places.specs.Grids.{gridded}
use Rattle.places.specs.Nodes.{in_time}
use Rattle.places.specs.Timed.{timed}
use Rattle.places.specs.declared.holders.HeldRef.{HeldRef}
use Rattle.places.specs.declared.holders.HeldRef.TheVariants as lending

-- the list of pairs: the one that is held, or the one that the others denote
abbrev pub pairs_lent : HeldRef → RestsView
pairs_lent (lending.Listed list) = list.now
pairs_lent (lending.Placed grid) = implied (gridded grid.now)
pairs_lent (lending.Timed nodes) = implied (in_time (timed nodes.now))

-- who precedes whom
abbrev pub lent : HeldRef → PrecedenceView
lent (lending.Listed list) = listed list.now
lent (lending.Placed grid) = gridded grid.now
lent (lending.Timed nodes) = in_time (timed nodes.now)
