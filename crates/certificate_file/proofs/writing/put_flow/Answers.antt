use Rattle.std.proofs.lemmas.Result.{on_ok_weaker, on_err_weaker}
use Rattle.certificate_file.proofs.Puts.{flow_first_failed, flow_second_failed, flow_third_failed, flow_held}
use Rattle.certificate_file.proofs.writing.put_flow.Goals as goal
use Rattle.fixed_worth.proofs.Results.{on_err}

pub returns-in_err-put_amounts-clause-prefix : goal.returns-in_err-put_amounts-clause-prefix
returns-in_err-put_amounts-clause-prefix g c =
    on_err c.from_residual.result
    (flow_first_failed c.args.rests.now.pairs c.args.flow.now c.source.result.now (g.W.Write.contents c.args.out.now)
    (g.W.Write.contents c.put_amounts.new.out) c.args.page.now c.source.ensures c.in_err-put_amounts.ensures.prefix)

pub returns-in_err-put_amounts-2-clause-prefix : goal.returns-in_err-put_amounts-2-clause-prefix
returns-in_err-put_amounts-2-clause-prefix g c =
    on_err c.from_residual-in_err-put_amounts-2.result
    (flow_second_failed c.args.rests.now.pairs c.args.flow.now c.source.result.now c.rest.result.now
    (g.W.Write.contents c.args.out.now) (g.W.Write.contents c.put_amounts.new.out)
    (g.W.Write.contents c.put_amounts-2.new.out) c.args.page.now c.put_amounts.new.page
    c.source.ensures c.rest.ensures c.in_ok-put_amounts.ensures.held c.in_err-put_amounts-2.ensures.prefix)

pub returns-clause-held : goal.returns-clause-held
returns-clause-held g c =
    on_ok_weaker c.put_amounts-3.result
    (flow_held c.args.rests.now.pairs c.args.flow.now c.source.result.now c.rest.result.now c.sink.result.now
    (g.W.Write.contents c.args.out.now) (g.W.Write.contents c.put_amounts.new.out)
    (g.W.Write.contents c.put_amounts-2.new.out) (g.W.Write.contents c.put_amounts-3.new.out)
    c.args.page.now c.put_amounts.new.page c.put_amounts-2.new.page c.put_amounts-3.new.page c.source.ensures
    c.rest.ensures c.sink.ensures c.in_ok-put_amounts.ensures.held c.in_ok-put_amounts-2.ensures.held)
    c.put_amounts-3.ensures.held

pub returns-clause-prefix : goal.returns-clause-prefix
returns-clause-prefix g c =
    on_err_weaker c.put_amounts-3.result
    (flow_third_failed c.args.rests.now.pairs c.args.flow.now c.source.result.now c.rest.result.now c.sink.result.now
    (g.W.Write.contents c.args.out.now) (g.W.Write.contents c.put_amounts.new.out)
    (g.W.Write.contents c.put_amounts-2.new.out) (g.W.Write.contents c.put_amounts-3.new.out)
    c.args.page.now c.put_amounts.new.page c.put_amounts-2.new.page c.source.ensures c.rest.ensures c.sink.ensures
    c.in_ok-put_amounts.ensures.held c.in_ok-put_amounts-2.ensures.held)
    c.put_amounts-3.ensures.prefix
