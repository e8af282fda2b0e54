use Rattle.std.proofs.Common.{◌≡◌, ◌+◌, ◌-◌, ◌≤◌, ◌++◌, length, map, take, vec_capacity}
use Rattle.prec_file.proofs.predecessors_builder.append.Given as goal

abbrev pub invariant-loop-predecessor : goal.invariant-loop-predecessor
invariant-loop-predecessor l =
    (l.list.items ≡ l.initial.list.items ++ map (λ p. p.1) (take l.predecessor-index l.pairs))
    × (length l.list.items + (length l.pairs - l.predecessor-index) ≤ vec_capacity l.list)
