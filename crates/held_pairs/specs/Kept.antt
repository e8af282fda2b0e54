-- The list of pairs that is held, or that nodes in periods denote.
use Rattle.prec_file.specs.Rests.{RestsView}
use Rattle.places.specs.Prelude.{implied, in_time, pairs_held, timed}
use Rattle.held_pairs.specs.declared.kept.Kept.{Kept}
use Rattle.held_pairs.specs.declared.kept.Kept.TheVariants as kept

abbrev pub pairs_kept : Kept → RestsView
pairs_kept (kept.Mine held) = pairs_held held
pairs_kept (kept.InTime nodes) = implied (in_time (timed nodes))
