use Rattle.std.proofs.Common.{◌≡◌, ◌+◌, ◌-◌, ◌≤◌, ◌++◌, length, map, take, vec_capacity}
use Rattle.prec_file.proofs.predecessors_builder.put_raised.Given as goal

abbrev pub invariant-loop-number : goal.invariant-loop-number
invariant-loop-number l = (l.list.items ≡ l.initial.list.items ++ map (λ k. l.by + k) (take l.number-index l.numbers))
    × (length l.list.items + (length l.numbers - l.number-index) ≤ vec_capacity l.list)
