use Rattle.std.proofs.Common.{◌≡◌, ℕ, ◌<◌, length, map, take, get_or}
use Rattle.sub_mines.specs.Renumbered.{number_in}
use Rattle.series_pits.proofs.lifted_pits.at_places.Given as goal

abbrev pub invariant-loop-i : goal.invariant-loop-i
invariant-loop-i l = (l.found.items ≡ map (number_in l.kept) (take l.i-index l.places))
    × ((j : ℕ) → j < l.i-index → get_or l.places j 0 < length l.kept)
