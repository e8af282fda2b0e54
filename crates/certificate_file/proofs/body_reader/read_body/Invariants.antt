use Rattle.std.proofs.Common.{length}
use Rattle.certificate_file.proofs.Going.{Going}
use Rattle.certificate_file.proofs.body_reader.read_body.Given as goal

abbrev pub invariant-loop-line : goal.invariant-loop-line
invariant-loop-line g l = Going g.G.OrderedGroup.counts l.n l.rests.pairs l.fn.pieces l.fn.parts l.previous l.pieces
    l.parts

abbrev pub decreases-loop-line : goal.decreases-loop-line
decreases-loop-line g l = length l.pieces.pieces
