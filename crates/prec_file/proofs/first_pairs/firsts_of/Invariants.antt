use Rattle.std.proofs.Common.{◌+◌, ◌≤◌, vec_capacity}
use Rattle.prec_file.proofs.Firsts.{FirstsSoFar}
use Rattle.prec_file.proofs.first_pairs.firsts_of.Given as goal

abbrev pub invariant-loop-k : goal.invariant-loop-k
invariant-loop-k l = record {
  so_far : FirstsSoFar l.pairs l.n l.k l.firsts.items;
  space : l.n + 1 ≤ vec_capacity l.firsts;
}
