use Rattle.fixed_worth.proofs.Common.{◌∙◌, rules, FitsSigned, w128, to_z-of_z}
use Rattle.design_engines.proofs.Designed.{valued, leaves}
use Rattle.design_engines.proofs.mine_value.value_of.Goals as goal

pub returns-in-None-clause-is : goal.returns-in-None-clause-is
returns-in-None-clause-is c = λ texts design read drawn. leaves texts design c.args.nanos.now c.args.predecessors.now
    c.args.marks.now read drawn c.in-None.ensures

pub returns-clause-is : goal.returns-clause-is
returns-clause-is c = λ texts design read drawn.
    let fits : FitsSigned w128 c.in-Some.worth = search rules in
    valued texts design c.args.nanos.now c.args.predecessors.now c.args.marks.now read drawn c.len-blocks.ensures.all
    c.count_marked-count.result _ c.in_ok-open.open.count c.in_ok-open.open.first.items
    c.count_marked-count.ensures (to_z-of_z w128 c.in-Some.worth fits ∙ c.in-Some.ensures) c.in_ok-open.ensures
