use Rattle.std.proofs.Common.{◌<◌, arith, length, refl}
use Rattle.closure_net.proofs.PortPlaces.{fore, length_fore, fore_slot, fore_is}
use Rattle.closure_net.proofs.port.forward_at.Goals as goal

pub overflow_add-slot : goal.overflow_add-slot
overflow_add-slot c =
    let ps = c.args.rests.now.pairs in
    let inside : c.args.i < length (fore ps c.args.b) = omega
    (arith, length_fore ps c.args.b _ c.above-predecessors.ensures) in
    omega (
      arith,
      fore_slot ps c.len-n.ensures.all.rising c.args.b c.args.i inside,
      c.first-first.ensures,
      c.len-n.ensures.few,
    )

pub returns : goal.returns
returns c =
    let ps = c.args.rests.now.pairs in
    let inside : c.args.i < length (fore ps c.args.b) = omega
    (arith, length_fore ps c.args.b _ c.above-predecessors.ensures) in
    fore_is ps c.len-n.ensures.all.rising c.args.b c.args.i _ _ c.above-predecessors.result.now
    c.above-predecessors.ensures inside refl c.first-first.ensures
