use Rattle.std.proofs.Common.{sym, subst}
use Rattle.plan_engines.specs.declared.plan_within.ToSolve.{ToSolve}
use Rattle.plan_engines.specs.Prelude.{SolvesFound}
use Rattle.plan_engines.proofs.plan_solving_engine.solve_found.Goals as goal

pub returns-in-NoPit-clause-answer : goal.returns-in-NoPit-clause-answer
returns-in-NoPit-clause-answer g c =
    let method = c.args.effort.method in
    let steps = c.args.effort.steps in
    let P : ToSolve → Type 0 = λ t. SolvesFound t method steps (g.W.Write.contents c.args.out.now)
    (g.W.Write.contents c.write_no_pit.new.out) c.write_no_pit.result in
    subst P (sym c.in-NoPit.is) (λ texts p u o given. c.write_no_pit.ensures.answer texts p u o method steps given)
