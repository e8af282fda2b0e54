use Rattle.std.proofs.Common.{◌≤◌, length}
use Rattle.prec_file.specs.declared.limits.TheConstants.{MOST_PAIRS}
use Rattle.held_pairs.specs.HeldLists.{ListsBelow}
use Rattle.held_pairs.proofs.held_lists.collected.Given as goal

abbrev pub invariant-loop-b : goal.invariant-loop-b
invariant-loop-b g l = record {
  listed : ListsBelow (g.P.Precedence.shown l.held) l.b l.pairs.items;
  few : length l.pairs.items ≤ MOST_PAIRS;
}
