use Rattle.std.proofs.Common.{arith, refl}
use Rattle.closure_net.proofs.Ascending.{steps_ascend}
use Rattle.closure_net.proofs.pit.is_ascending.Goals as goal

pub returns : goal.returns
returns c = (λ t. steps_ascend c.args.blocks.now (λ k p l. c.loop-i.invariant k p (omega arith)), λ h. refl)
