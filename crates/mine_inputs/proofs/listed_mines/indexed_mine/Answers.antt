use Rattle.fixed_worth.proofs.Common.{sym, subst, err_from_is_err_and}
use Rattle.mine_inputs.specs.Prelude.{ForTexts, IsMineRead}
use Rattle.mine_inputs.proofs.MinesRead.{memory_refused, mine_priced}
use Rattle.mine_inputs.proofs.listed_mines.indexed_mine.Goals as goal

pub returns-in_err-rests-clause-read : goal.returns-in_err-rests-clause-read
returns-in_err-rests-clause-read g c =
    let p = err_from_is_err_and c.from_residual-in_err-rests.result c.from_residual-in_err-rests.ensures.1 in
    rw (p.1, p.2) (memory_refused c.args.inputs.now g.D.Read.remaining c.args.factor)

pub returns-in_err-nanos-clause-read : goal.returns-in_err-nanos-clause-read
returns-in_err-nanos-clause-read g c =
    let p = err_from_is_err_and c.from_residual-in_err-nanos.result c.from_residual-in_err-nanos.ensures.1 in
    rw (p.1, p.2) (memory_refused c.args.inputs.now g.D.Read.remaining c.args.factor)

pub returns-in_err-worths-clause-read : goal.returns-in_err-worths-clause-read
returns-in_err-worths-clause-read g c =
    let p = err_from_is_err_and c.from_residual.result c.from_residual.ensures.1 in
    rw (p.1, p.2) (c.in_err-worths.ensures.read c.args.factor)

pub returns-clause-read : goal.returns-clause-read
returns-clause-read g c =
    let mine = c.in_ok-worths.field-0 in
    let read = subst (λ r. ForTexts c.args.inputs.now g.D.Read.remaining c.args.factor
    (λ texts. IsMineRead texts c.args.factor mine.worths r)) (sym c.in_ok-rests.ensures)
    (c.in_ok-worths.ensures.read c.args.factor) in
    mine_priced c.args.inputs.now g.D.Read.remaining c.args.factor mine.worths c.in_ok-rests.rests
    c.in_ok-nanos.nanos.items c.price_at-price.result read c.in_ok-nanos.ensures c.price_at-price.ensures.is
