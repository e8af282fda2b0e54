use Rattle.std.proofs.lemmas.Result.{err_from_is_err_and}
use Rattle.mine_inputs.proofs.MinesRead.{settings_unread, key_missing, prices_unread, prices_read}
use Rattle.mine_inputs.proofs.mines.worths_by_prices.Goals as goal

pub returns-in_err-settings-clause-read : goal.returns-in_err-settings-clause-read
returns-in_err-settings-clause-read g c = λ factor precedence.
    let p = err_from_is_err_and c.from_residual.result c.from_residual.ensures.1 in
    rw (p.1, p.2) (settings_unread (g.D.Read.remaining c.args.settings.now) (g.D.Read.remaining c.args.blocks.now)
    precedence factor c.in_err-settings.field-0.0 c.in_err-settings.ensures.read)

pub returns-in_err-columns-clause-read : goal.returns-in_err-columns-clause-read
returns-in_err-columns-clause-read g c = λ factor precedence.
    let p = err_from_is_err_and c.from_residual-in_err-columns.result c.from_residual-in_err-columns.ensures.1 in
    rw (p.1, p.2) (key_missing (g.D.Read.remaining c.args.settings.now) (g.D.Read.remaining c.args.blocks.now)
    precedence factor c.in_ok-settings.settings c.in_ok-settings.ensures.read c.in_err-columns.field-0.0
    c.in_err-columns.ensures.columns)

pub returns-in_err-prices-clause-read : goal.returns-in_err-prices-clause-read
returns-in_err-prices-clause-read g c = λ factor precedence.
    let p = err_from_is_err_and c.from_residual-in_err-prices.result c.from_residual-in_err-prices.ensures.1 in
    let columns = c.in_ok-columns.ensures.columns in
    rw (p.1, p.2) (prices_unread (g.D.Read.remaining c.args.settings.now) (g.D.Read.remaining c.args.blocks.now)
    precedence factor c.in_ok-settings.settings c.in_ok-settings.ensures.read columns.1 c.in_ok-columns.columns
    columns.0 c.in_err-prices.field-0.0 c.in_err-prices.ensures.read)

pub returns-clause-read : goal.returns-clause-read
returns-clause-read g c = λ factor precedence.
    let columns = c.in_ok-columns.ensures.columns in
    prices_read (g.D.Read.remaining c.args.settings.now) (g.D.Read.remaining c.args.blocks.now) precedence factor
    c.in_ok-settings.settings c.in_ok-settings.ensures.read columns.1 c.in_ok-columns.columns columns.0
    c.in_ok-prices.prices c.len-blocks.ensures.table.revenues c.in_ok-prices.ensures.read
