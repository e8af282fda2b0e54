use Rattle.sub_mines.specs.Among.{ArePlacesAmong}
use Rattle.sub_mines.proofs.among.places_of.Given as goal

abbrev pub invariant-loop-i : goal.invariant-loop-i
invariant-loop-i l = ArePlacesAmong l.n l.kept l.i l.places.items
