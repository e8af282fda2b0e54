use Rattle.fixed_worth.proofs.Common.{subst, err_from_is_err_and}
use Rattle.certificate_file.specs.declared.header.Price.{Price}
use Rattle.mine_inputs.proofs.MinesRead.{read_as}
use Rattle.solve_engines.proofs.Solutions.{net_by}
use Rattle.traced_engine.specs.TracedRuns.{TracesNet}
use Rattle.traced_engine.proofs.MineAnswers.{traced, unmade_traced}
use Rattle.traced_engine.proofs.tracing_engine.trace_by.Goals as goal

pub returns-in_err-net-clause-answer : goal.returns-in_err-net-clause-answer
returns-in_err-net-clause-answer g c = λ texts read at named.
    let p = err_from_is_err_and c.from_residual.result c.from_residual.ensures.1 in
    rw (p.1, p.2)
    (unmade_traced g.G.OrderedGroup.block_parts g.G.OrderedGroup.counts texts g.G.OrderedGroup.name c.args.mine.rests
    c.as_slice.result.now c.args.asked.effort.steps c.args.asked.room
    (g.V.Write.contents c.args.outputs.now.trace) (g.W.Write.contents c.args.outputs.now.out)
    c.in_err-net.field-0.0 (read_as texts _ _ c.args.mine.rests c.as_slice.ensures.value read) named
    c.in_err-net.ensures)

pub returns-clause-answer : goal.returns-clause-answer
returns-clause-answer g c = λ texts read at named.
    let by = net_by g.G.OrderedGroup.block_parts g.G.OrderedGroup.counts texts g.G.OrderedGroup.name c.args.mine.rests
    c.as_slice.result.now c.in_ok-net.net (read_as texts _ _ c.args.mine.rests c.as_slice.ensures.value read)
    named c.worths-worths.ensures.net c.in_ok-net.ensures.0 c.in_ok-net.ensures.1 in
    let before = g.V.Write.contents c.args.outputs.now.trace in
    let after = g.V.Write.contents c.trace_net.new.outputs.trace in
    let old = g.W.Write.contents c.args.outputs.now.out in
    let new = g.W.Write.contents c.trace_net.new.outputs.out in
    let P : Price → Type 0 = λ p. TracesNet g.G.OrderedGroup.counts g.G.OrderedGroup.name p c.in_ok-net.net
    c.args.asked.effort.steps c.args.asked.room before after old new c.trace_net.result in
    traced g.G.OrderedGroup.block_parts g.G.OrderedGroup.counts texts g.G.OrderedGroup.name c.in_ok-net.net
    c.args.asked.effort.steps c.args.asked.room named by
    before after old new c.trace_net.result (subst P at c.trace_net.ensures.answer)
