use Rattle.fixed_worth.proofs.Common.{◌≡◌, [], pos, map, get_or, range_with_len}
use Rattle.mine_inputs.proofs.priced_inputs.column_of.Given as goal

abbrev pub invariant-loop-b : goal.invariant-loop-b
invariant-loop-b l = l.values.items ≡ map (λ b. get_or (get_or l.model.columns l.i []) b (pos 0)) (range_with_len 0 l.b)
