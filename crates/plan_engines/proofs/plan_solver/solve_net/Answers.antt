use Rattle.solve_engines.specs.Prelude.{IsSolution}
use Rattle.solve_engines.proofs.NetAnswers.{answered}
use Rattle.plan_engines.proofs.plan_solver.solve_net.Goals as goal

pub returns-clause-answer : goal.returns-clause-answer
returns-clause-answer g c =
    let net = c.args.net.now in
    let asked = c.args.asked.effort in
    answered g.G.OrderedGroup.counts g.G.OrderedGroup.name c.args.asked.price net asked.method asked.steps
    (g.W.Write.contents c.args.out.now) (g.W.Write.contents c.write_answer.new.out)
    (λ s. s.flow) (λ s. s.pit) (λ s. IsSolution g.G.OrderedGroup.set_worth net s.flow s.pit s.count s.worth)
    c.solution_of-found.result c.write_answer.result (λ s h. h.sound) c.solution_of-found.ensures
    c.write_answer.ensures.answer
