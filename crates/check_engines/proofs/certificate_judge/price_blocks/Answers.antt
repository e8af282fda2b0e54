use Rattle.fixed_worth.proofs.Common.{sym, ◌∙◌, err_from_is_err_and}
use Rattle.check_engines.proofs.StreamAnswers.{header_unjudged, priced, price_unjudged}
use Rattle.check_engines.proofs.certificate_judge.price_blocks.Goals as goal

pub returns-in_err-header-clause-priced : goal.returns-in_err-header-clause-priced
returns-in_err-header-clause-priced g c = λ rests same.
    let p = err_from_is_err_and c.from_residual.result c.from_residual.ensures.1 in
    rw (p.1, p.2) (header_unjudged (g.C.Read.remaining c.args.stream.now.lines.from) c.args.worths rests c.args.blocks
    c.in_err-header.field-0.0 same c.in_err-header.ensures.read)

pub returns-in_default-clause-priced : goal.returns-in_default-clause-priced
returns-in_default-clause-priced g c = λ rests same.
    let remaining = g.C.Read.remaining in
    price_unjudged remaining c.header_for.new.stream.lines (remaining c.args.stream.now.lines.from) c.args.worths
    rests c.in_ok-header.header (c.in_ok-header.ensures.blocks.0 ∙ sym same) c.in_default.ensures
    c.in_ok-header.ensures.read

pub returns-clause-priced : goal.returns-clause-priced
returns-clause-priced g c = λ rests same.
    let remaining = g.C.Read.remaining in
    priced remaining c.header_for.new.stream.lines (remaining c.args.stream.now.lines.from) c.args.worths rests
    c.in_ok-header.header c.in-Some.factor c.in_ok-nanos.nanos.items (c.in_ok-header.ensures.blocks.0 ∙ sym same)
    c.in-Some.ensures.0 c.in-Some.ensures.1 c.in_ok-nanos.ensures c.in_ok-header.ensures.read
