use Rattle.std.proofs.Common.{subst}
use Rattle.places.specs.Prelude.{AreNodes, timed, NodesView}
use Rattle.places.proofs.NodeWays.{nodes_are}
use Rattle.places.proofs.nodes.NodesPrecedence.len.Goals as goal

pub returns-clause-all : goal.returns-clause-all
returns-clause-all c = let P : NodesView → Type 0 = λ v. AreNodes (timed v) in nodes_are (timed c.args.self.now)
    (subst P c.self.view_is c.self.invariant)
