use Rattle.fixed_worth.proofs.Common.{◌<◌, ◌%◌, sym, subst}
use Rattle.places.specs.Prelude.{NodesView, node_count, timed}
use Rattle.places.proofs.NodeWays.{small_lagged}
use Rattle.places.proofs.nodes.Nodes.lagged.Goals as goal

pub node_from-requires : goal.node_from-requires
node_from-requires c =
    let K : NodesView → Type 0 = λ v. c.args.i < node_count (timed v) in
    let I : NodesView → Type 0 = λ v. c.args.k < (timed v).waits.ways (c.args.i % (timed v).base.blocks) in
    small_lagged _ c.self.invariant c.args.i c.args.k c.len-n.result (subst K (sym c.self.view_is) c.requires.known)
    (subst I (sym c.self.view_is) c.requires.inside) c.len-n.ensures.is c.way.result c.way.ensures
