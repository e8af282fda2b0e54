use Rattle.fixed_worth.proofs.Common.{IfOk-weaker}
use Rattle.bound_engines.specs.Prelude.{IsToldBy, IsToldIn}
use Rattle.bound_engines.proofs.bound_judge.bound_after.Goals as goal

pub returns-in-Ok-clause-told : goal.returns-in-Ok-clause-told
returns-in-Ok-clause-told g c =
    let e = c.in-Ok.expanded in
    IfOk-weaker c.bound_of_nodes.result (IsToldBy e.figures e.prices.items e.pairs e.worths.items) (IsToldIn c.args.figured)
    (λ t h rests ways worth used said waits of.
    record {
      figures = e.figures;
      others = e.others.items;
      prices = e.prices.items;
      node_pairs = e.pairs;
      node_worths = e.worths.items;
      expanded = c.in-Ok.ensures.is rests ways worth used said waits of;
      told = h;
    })
    c.bound_of_nodes.ensures.told
