use Rattle.fixed_worth.proofs.Common.{◌<◌, sym, subst, arith}
use Rattle.places.specs.Prelude.{NodesView, node_count, timed}
use Rattle.places.proofs.NodeWays.{small_beside}
use Rattle.places.proofs.nodes.NodesPrecedence.way.Goals as goal

pub node_from-requires : goal.node_from-requires
node_from-requires c =
    let K : NodesView → Type 0 = λ v. c.args.i < node_count (timed v) in
    small_beside _ c.self.invariant c.args.i c.args.k c.len-n.result (subst K (sym c.self.view_is) c.requires.known)
    (omega (arith, c.if-k-own.true, c.ways-own.ensures)) c.len-n.ensures.is c.way.result c.way.ensures
