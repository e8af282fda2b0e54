use Rattle.fixed_worth.proofs.Common.{subst, err_from_is_err_and}
use Rattle.certificate_file.specs.declared.header.Price.{Price}
use Rattle.solve_engines.specs.Prelude.{IsSolution, SolvesNet}
use Rattle.mine_inputs.proofs.MinesRead.{read_as}
use Rattle.solve_engines.proofs.NetAnswers.{answered}
use Rattle.solve_engines.proofs.Solutions.{net_by, solved, unmade}
use Rattle.solve_engines.proofs.solving_engine.solve_by.Goals as goal

pub returns-in_err-net-clause-answer : goal.returns-in_err-net-clause-answer
returns-in_err-net-clause-answer g c = λ texts read at named.
    let w = g.W.Write.contents c.args.out.now in
    let p = err_from_is_err_and c.from_residual.result c.from_residual.ensures.1 in
    rw (p.1, p.2)
    (unmade g.G.OrderedGroup.block_parts g.G.OrderedGroup.counts texts g.G.OrderedGroup.name c.args.mine.rests
    c.as_slice.result.now c.args.effort.method c.args.effort.steps w c.in_err-net.field-0.0
    (read_as texts _ _ c.args.mine.rests c.as_slice.ensures.value read) named c.in_err-net.ensures)

pub returns-clause-answer : goal.returns-clause-answer
returns-clause-answer g c = λ texts read at named.
    let counts = g.G.OrderedGroup.counts in
    let name = g.G.OrderedGroup.name in
    let net = c.in_ok-net.net in
    let by = net_by g.G.OrderedGroup.block_parts counts texts name c.args.mine.rests c.as_slice.result.now net
    (read_as texts _ _ c.args.mine.rests c.as_slice.ensures.value read) named c.worths-worths.ensures.net
    c.in_ok-net.ensures.0 c.in_ok-net.ensures.1 in
    let old = g.W.Write.contents c.args.out.now in
    let new = g.W.Write.contents c.write_answer.new.out in
    let P : Price → Type 0 = λ p. SolvesNet counts name p net c.args.effort.method c.args.effort.steps old new
    c.write_answer.result in
    solved g.G.OrderedGroup.block_parts counts texts name net c.args.effort.method c.args.effort.steps named by old
    new c.write_answer.result
    (subst P at (answered counts name c.args.mine.price net c.args.effort.method c.args.effort.steps old new
    (λ s. s.flow) (λ s. s.pit) (λ s. IsSolution g.G.OrderedGroup.set_worth net s.flow s.pit s.count s.worth)
    c.solution_of-found.result c.write_answer.result (λ s h. h.sound) c.solution_of-found.ensures
    c.write_answer.ensures.answer))
