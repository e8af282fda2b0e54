use Rattle.std.proofs.Common.{false, subst, Ok, Err}
use Rattle.ordered_group.specs.declared.groups.Group.TheVariants.{Worth}
use Rattle.closure_net.specs.Prelude.{NetView, IsNet}
use Rattle.solve_engines.specs.Prelude.{SolvesNet}
use Rattle.plan_engines.proofs.PlanSolved.{net_is, sent}
use Rattle.plan_engines.proofs.plan_solver.solve_listed.Goals as goal

pub returns-in-Ok-solve_net-clause-answer : goal.returns-in-Ok-solve_net-clause-answer
returns-in-Ok-solve_net-clause-answer g c =
    let e = net_is c.args.nodes.pairs c.in-Ok.rests c.args.nodes.worths.items c.as_slice.result.now
    c.in-Ok-of_worths.net c.in-Ok.ensures c.as_slice.ensures.value c.in-Ok-of_worths.ensures.0 in
    let P : NetView → Type 0 = λ n. SolvesNet false Worth c.args.asked.price n c.args.asked.effort.method
    c.args.asked.effort.steps (g.W.Write.contents c.args.out.now) (g.W.Write.contents c.solve_net.new.out)
    (Ok c.in-Ok-solve_net.verdict) in
    (subst IsNet e c.worths-worths.ensures.net, subst P e c.in-Ok-solve_net.ensures.answer)

pub returns-clause-answer : goal.returns-clause-answer
returns-clause-answer g c =
    let e = net_is c.args.nodes.pairs c.in-Ok.rests c.args.nodes.worths.items c.as_slice.result.now
    c.in-Ok-of_worths.net c.in-Ok.ensures c.as_slice.ensures.value c.in-Ok-of_worths.ensures.0 in
    let old = g.W.Write.contents c.args.out.now in
    let new = g.W.Write.contents c.solve_net.new.out in
    let P : NetView → Type 0 = λ n. SolvesNet false Worth c.args.asked.price n c.args.asked.effort.method
    c.args.asked.effort.steps old new (Err c.in-Err-solve_net.fault) in
    sent c.args.asked.price c.args.nodes.pairs c.args.nodes.worths.items c.args.asked.effort.method
    c.args.asked.effort.steps old new c.in-Err-solve_net.fault (subst IsNet e c.worths-worths.ensures.net)
    (subst P e c.in-Err-solve_net.ensures.answer)
