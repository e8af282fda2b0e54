use Rattle.std.proofs.lemmas.Result.{err_from_is_err_and}
use Rattle.traced_engine.proofs.RunAnswers.{cut, history_of, told, trace_cut, traced, unwritten}
use Rattle.traced_engine.proofs.traced_run.trace_net.Goals as goal

pub returns-in_err-write_trace-in-Ok-clause-answer : goal.returns-in_err-write_trace-in-Ok-clause-answer
returns-in_err-write_trace-in-Ok-clause-answer g c =
    let p = err_from_is_err_and c.from_residual.result c.from_residual.ensures.1 in
    let net = c.args.net.now in
    let asked = c.args.asked in
    let history = c.in-Ok.audit.history.items in
    rw (p.1, p.2)
    (trace_cut g.G.OrderedGroup.counts g.G.OrderedGroup.name asked.price net asked.effort.steps asked.room history
    c.as_slice.result.now (g.V.Write.contents c.args.outputs.now.trace) (g.V.Write.contents c.write_trace.new.out)
    (g.W.Write.contents c.args.outputs.now.out)
    (history_of net asked.effort.steps asked.room c.in-Ok.audit.flow history c.in-Ok.ensures.answer)
    c.as_slice.ensures.value c.in_err-write_trace-in-Ok.ensures.prefix)

pub returns-in-Ok-clause-answer : goal.returns-in-Ok-clause-answer
returns-in-Ok-clause-answer g c =
    let asked = c.args.asked in
    let history = c.in-Ok.audit.history.items in
    traced g.G.OrderedGroup.counts g.G.OrderedGroup.name asked.price c.args.net.now asked.effort.steps asked.room
    history c.as_slice.result.now (g.V.Write.contents c.args.outputs.now.trace)
    (g.V.Write.contents c.write_trace.new.out) (g.W.Write.contents c.args.outputs.now.out)
    (g.W.Write.contents c.tell_flow.new.out) c.as_slice.ensures.value c.tell_flow.result
    c.in_ok-write_trace-in-Ok.ensures.sent
    (c.tell_flow.ensures.answer asked.effort.steps asked.room history c.in-Ok.ensures.answer)

pub returns-in_err-line-clause-answer : goal.returns-in_err-line-clause-answer
returns-in_err-line-clause-answer g c =
    let p = err_from_is_err_and c.from_residual-in_err-line.result c.from_residual-in_err-line.ensures.1 in
    let asked = c.args.asked in
    let ended = c.in-Err.ended in
    rw (p.1, p.2)
    (unwritten g.G.OrderedGroup.counts g.G.OrderedGroup.name asked.price c.args.net.now asked.effort.workers
    asked.effort.steps asked.room ended.fault ended.history.items (g.V.Write.contents c.args.outputs.now.trace)
    (g.W.Write.contents c.args.outputs.now.out) c.in-Err.ensures.answer
    _ c.in_err-line.ensures.line)

pub returns-in_err-write_trace-clause-answer : goal.returns-in_err-write_trace-clause-answer
returns-in_err-write_trace-clause-answer g c =
    let p = err_from_is_err_and c.from_residual-in_err-write_trace.result
    c.from_residual-in_err-write_trace.ensures.1 in
    let asked = c.args.asked in
    let ended = c.in-Err.ended in
    rw (p.1, p.2)
    (cut g.G.OrderedGroup.counts g.G.OrderedGroup.name asked.price c.args.net.now asked.effort.workers
    asked.effort.steps asked.room ended.fault ended.history.items (g.V.Write.contents c.args.outputs.now.trace)
    (g.W.Write.contents c.args.outputs.now.out) c.in-Err.ensures.answer
    c.in_ok-line.line.now c.as_slice-2.result.now (g.V.Write.contents c.write_trace-2.new.out)
    c.in_ok-line.ensures.line c.as_slice-2.ensures.value c.in_err-write_trace.ensures.prefix)

pub returns-clause-answer : goal.returns-clause-answer
returns-clause-answer g c =
    let asked = c.args.asked in
    let ended = c.in-Err.ended in
    told g.G.OrderedGroup.counts g.G.OrderedGroup.name asked.price c.args.net.now asked.effort.workers
    asked.effort.steps asked.room ended.fault ended.history.items (g.V.Write.contents c.args.outputs.now.trace)
    (g.W.Write.contents c.args.outputs.now.out) c.in-Err.ensures.answer
    c.in_ok-line.line.now c.as_slice-2.result.now (g.V.Write.contents c.write_trace-2.new.out)
    c.in_ok-line.ensures.line c.as_slice-2.ensures.value
    (g.W.Write.contents c.write_no.new.out) c.write_no.result c.in_ok-write_trace.ensures.sent c.write_no.ensures.answer
