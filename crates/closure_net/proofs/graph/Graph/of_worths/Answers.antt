use Rattle.std.proofs.Common.{ℕ, subst}
use Rattle.closure_net.specs.Faults.{WorthsFaultStands}
use Rattle.closure_net.proofs.graph.Graph.of_worths.Goals as goal

pub returns-in-Err : goal.returns-in-Err
returns-in-Err g c =
    let P : ℕ → Type 0 = λ n. WorthsFaultStands g.G.OrderedGroup.block_parts n c.args.nanos.now c.in-Err.fault in
    subst P c.len.ensures.is c.in-Err.ensures
