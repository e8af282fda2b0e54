use Rattle.fixed_worth.proofs.Common.{subst, sym}
use Rattle.prec_file.specs.Rests.{RestsView}
use Rattle.closure_net.specs.Prelude.{IsNetParts}
use Rattle.check_pit.proofs.HeldNets.{net_with}
use Rattle.check_pit.proofs.held_graph.HeldGraph.with_pairs.Goals as goal

pub invariant_of-result : goal.invariant_of-result
invariant_of-result g c =
    subst (λ (r : RestsView). IsNetParts r c.args.graph.worths) (sym c.as_ref.ensures)
    (net_with c.args.graph c.args.pairs.now c.worths-worths.ensures.net c.len-blocks.ensures.all c.requires)
