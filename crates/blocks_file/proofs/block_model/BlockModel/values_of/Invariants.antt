use Rattle.fixed_worth.proofs.Common.{◌≡◌, [], pos, map, get_or, range_with_len}
use Rattle.blocks_file.proofs.block_model.BlockModel.values_of.Given as goal

abbrev pub invariant-loop-block : goal.invariant-loop-block
invariant-loop-block l = l.values.items ≡ map (λ b. get_or (get_or l.self.columns l.i []) b (pos 0))
    (range_with_len 0 l.block)
