use Rattle.std.proofs.Common.{inl}
use Rattle.plan_engines.proofs.plan_solver.solve_plan.Goals as goal

pub returns-in-Ok-clause-answer : goal.returns-in-Ok-clause-answer
returns-in-Ok-clause-answer g c =
    let e = c.in-Ok.nodes in
    inl (
      e.figures,
      e.others.items,
      e.prices.items,
      e.pairs,
      e.worths.items,
      c.in-Ok.ensures.is,
      c.solve_nodes.ensures.answer,
    )
