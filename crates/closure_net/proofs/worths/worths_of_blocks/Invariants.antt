use Rattle.std.proofs.Common.{◌≡◌, map, take}
use Rattle.closure_net.proofs.worths.worths_of_blocks.Given as goal

abbrev pub invariant-loop-x : goal.invariant-loop-x
invariant-loop-x g l = map g.G.OrderedGroup.parts_of l.worths.items ≡ map (λ x. g.G.OrderedGroup.block_parts x l.n)
    (take l.x-index l.nanos)
