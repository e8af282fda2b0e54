use Rattle.places.specs.Prelude.{pairs_below}
use Rattle.design_value.specs.Prelude.{AreOpen, marked_in}
use Rattle.design_value.proofs.open_pairs.open_among.Given as goal

abbrev pub invariant-loop-b : goal.invariant-loop-b
invariant-loop-b g l = AreOpen (marked_in l.marks)
    (pairs_below (g.P.Precedence.shown l.held).rests (g.P.Precedence.shown l.held).blocks l.b) l.leading.count
    l.leading.first.items
