use Rattle.std.proofs.Common.{◌≤◌, length}
use Rattle.prec_file.specs.declared.limits.TheConstants.{MOST_PAIRS}
use Rattle.held_pairs.specs.HeldLists.{AddsWays}
use Rattle.held_pairs.proofs.held_lists.add_ways.Given as goal

abbrev pub invariant-loop-way : goal.invariant-loop-way
invariant-loop-way g l = record {
  added : AddsWays (g.P.Precedence.shown l.held) l.b l.way l.fn.pairs.items l.pairs.items;
  few : length l.pairs.items ≤ MOST_PAIRS;
}
