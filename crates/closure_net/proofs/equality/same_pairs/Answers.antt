use Rattle.std.proofs.Common.{arith, refl}
use Rattle.closure_net.proofs.Views.{same_at_default}
use Rattle.closure_net.proofs.equality.same_pairs.Goals as goal

pub returns : goal.returns
returns c = (
  λ t. same_at_default (0, 0) c.args.a.now.pairs c.args.b.now.pairs (omega arith)
      (λ i l. c.loop-k.invariant i (omega (arith, c.pairs-k-end.ensures))),
  λ e. refl,
)
