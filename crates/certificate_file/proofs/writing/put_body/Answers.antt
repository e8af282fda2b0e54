use Rattle.fixed_worth.proofs.Common.{map, on_ok_weaker, on_err_weaker}
use Rattle.certificate_file.specs.Written.{pit_at, body_text, flow_lines, end_text}
use Rattle.certificate_file.proofs.Puts.{body_parts, first_failed, second_failed, third_failed, three_held}
use Rattle.certificate_file.proofs.writing.put_body.Goals as goal
use Rattle.fixed_worth.proofs.Results.{on_err}

pub returns-in_err-put_pit-clause-prefix : goal.returns-in_err-put_pit-clause-prefix
returns-in_err-put_pit-clause-prefix g c =
    let ls = map pit_at c.args.certificate.now.pit in
    let ms = flow_lines c.args.rests.now.pairs c.args.certificate.now.flow in
    on_err c.from_residual.result
    (first_failed (g.W.Write.contents c.args.out.now) (g.W.Write.contents c.put_pit.new.out) c.args.page.now
    (body_text ls) (body_text ms) end_text _ (body_parts ls ms end_text) c.in_err-put_pit.ensures.prefix)

pub returns-in_err-put_flow-clause-prefix : goal.returns-in_err-put_flow-clause-prefix
returns-in_err-put_flow-clause-prefix g c =
    let ls = map pit_at c.args.certificate.now.pit in
    let ms = flow_lines c.args.rests.now.pairs c.args.certificate.now.flow in
    on_err c.from_residual-in_err-put_flow.result
    (second_failed (g.W.Write.contents c.args.out.now) (g.W.Write.contents c.put_pit.new.out)
    (g.W.Write.contents c.put_flow.new.out) c.args.page.now c.put_pit.new.page (body_text ls)
    (body_text ms) end_text _ (body_parts ls ms end_text) c.in_ok-put_pit.ensures.held
    c.in_err-put_flow.ensures.prefix)

pub returns-clause-held : goal.returns-clause-held
returns-clause-held g c =
    let ls = map pit_at c.args.certificate.now.pit in
    let ms = flow_lines c.args.rests.now.pairs c.args.certificate.now.flow in
    on_ok_weaker c.put.result
    (three_held (g.W.Write.contents c.args.out.now) (g.W.Write.contents c.put_pit.new.out)
    (g.W.Write.contents c.put_flow.new.out) (g.W.Write.contents c.put.new.out) c.args.page.now c.put_pit.new.page
    c.put_flow.new.page c.put.new.self (body_text ls) (body_text ms) end_text _ (body_parts ls ms end_text)
    c.in_ok-put_pit.ensures.held c.in_ok-put_flow.ensures.held)
    c.put.ensures.held

pub returns-clause-prefix : goal.returns-clause-prefix
returns-clause-prefix g c =
    let ls = map pit_at c.args.certificate.now.pit in
    let ms = flow_lines c.args.rests.now.pairs c.args.certificate.now.flow in
    on_err_weaker c.put.result
    (third_failed (g.W.Write.contents c.args.out.now) (g.W.Write.contents c.put_pit.new.out)
    (g.W.Write.contents c.put_flow.new.out) (g.W.Write.contents c.put.new.out) c.args.page.now c.put_pit.new.page
    c.put_flow.new.page (body_text ls) (body_text ms) end_text _ (body_parts ls ms end_text)
    c.in_ok-put_pit.ensures.held c.in_ok-put_flow.ensures.held)
    c.put.ensures.prefix
