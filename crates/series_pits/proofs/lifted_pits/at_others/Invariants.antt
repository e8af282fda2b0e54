use Rattle.std.proofs.Common.{◌≡◌, map}
use Rattle.prec_file.specs.Rests.{numbers_passing}
use Rattle.closure_net.specs.Network.{holds_of}
use Rattle.sub_mines.specs.Prelude.{difference_of, every_block, number_in}
use Rattle.series_pits.proofs.lifted_pits.at_others.Given as goal

abbrev pub invariant-loop-i : goal.invariant-loop-i
invariant-loop-i l = l.found.items ≡ map (number_in l.kept)
    (numbers_passing (difference_of every_block (holds_of l.pit)) l.i)
