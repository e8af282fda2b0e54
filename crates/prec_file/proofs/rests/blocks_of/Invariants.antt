use Rattle.std.proofs.Common.{◌≡◌, ◌+◌, map, take}
use Rattle.prec_file.specs.Rests.{first_of}
use Rattle.prec_file.proofs.rests.blocks_of.Given as goal

abbrev pub invariant-loop-block : goal.invariant-loop-block
invariant-loop-block l = l.blocks.items ≡ map (λ p. p.0) (take (first_of l.of.pairs l.block) l.of.pairs)

abbrev pub invariant-loop-predecessor : goal.invariant-loop-predecessor
invariant-loop-predecessor l = l.blocks.items ≡ map (λ p. p.0)
    (take (first_of l.of.pairs l.block + l._predecessor-index) l.of.pairs)
