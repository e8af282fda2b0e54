use Rattle.std.proofs.Common.{◌≤◌, length}
use Rattle.prec_file.specs.declared.limits.TheConstants.{MOST_PAIRS}
use Rattle.sub_mines.specs.Among.{AreRowsAnd}
use Rattle.sub_mines.proofs.among.add_row.Given as goal

abbrev pub invariant-loop-other : goal.invariant-loop-other
invariant-loop-other l = AreRowsAnd l.predecessors.pairs l.kept l.row l.other-index l.pairs.items
    × (length l.pairs.items ≤ MOST_PAIRS)
