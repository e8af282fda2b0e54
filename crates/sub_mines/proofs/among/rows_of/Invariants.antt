use Rattle.std.proofs.Common.{◌≤◌, length}
use Rattle.prec_file.specs.declared.limits.TheConstants.{MOST_PAIRS}
use Rattle.sub_mines.specs.Among.{AreRowsAmong}
use Rattle.sub_mines.proofs.among.rows_of.Given as goal

abbrev pub invariant-loop-row : goal.invariant-loop-row
invariant-loop-row l = AreRowsAmong l.predecessors.pairs l.kept l.row l.pairs.items
    × (length l.pairs.items ≤ MOST_PAIRS)
