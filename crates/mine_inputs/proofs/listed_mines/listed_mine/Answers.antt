use Rattle.fixed_worth.proofs.Common.{sym, subst, err_from_is_err_and}
use Rattle.mine_inputs.specs.Prelude.{ForTexts, IsMineRead}
use Rattle.mine_inputs.proofs.MinesRead.{memory_refused}
use Rattle.mine_inputs.proofs.listed_mines.listed_mine.Goals as goal

pub returns-in_err-worths-clause-read : goal.returns-in_err-worths-clause-read
returns-in_err-worths-clause-read g c = λ factor.
    let p = err_from_is_err_and c.from_residual.result c.from_residual.ensures.1 in
    rw (p.1, p.2) (c.in_err-worths.ensures.read factor)

pub returns-in_err-list-clause-read : goal.returns-in_err-list-clause-read
returns-in_err-list-clause-read g c = λ factor.
    let p = err_from_is_err_and c.from_residual-in_err-list.result c.from_residual-in_err-list.ensures.1 in
    rw (p.1, p.2) (memory_refused c.args.inputs.now g.D.Read.remaining factor)

pub returns-clause-read : goal.returns-clause-read
returns-clause-read g c = λ factor.
    let mine = c.in_ok-worths.field-0 in
    subst (λ r. ForTexts c.args.inputs.now g.D.Read.remaining factor (λ texts. IsMineRead texts factor mine.worths r))
    (sym c.in_ok-list.ensures) (c.in_ok-worths.ensures.read factor)
