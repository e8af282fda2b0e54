use Rattle.fixed_worth.proofs.Common.{false, err_from_is_err_and}
use Rattle.engine_faults.proofs.Failed.{stayed, went}
use Rattle.mine_inputs.proofs.PricedAnswers.{prices_said, prices_unsaid, prices_answer, prec_answer, mine_answer}
use Rattle.shell_engines.proofs.Readings.{prices_known, settings_unread, columns_missing, factors_refused, mine_fails}
use Rattle.shell_engines.proofs.Readings.{mine_read}
use Rattle.shell_engines.proofs.series_inputs.listed_series.Goals as goal

pub returns-in_err-settings-clause-read : goal.returns-in_err-settings-clause-read
returns-in_err-settings-clause-read g c =
    let p = err_from_is_err_and c.from_residual.result c.from_residual.ensures.1 in
    rw (p.1, p.2) (settings_unread (g.D.Read.remaining c.args.settings.now) (g.D.Read.remaining c.args.blocks.now)
    (g.D.Read.remaining c.args.prec.now) c.in_err-settings.field-0.0 c.in_err-settings.ensures.read)

pub returns-in_err-columns-clause-read : goal.returns-in_err-columns-clause-read
returns-in_err-columns-clause-read g c =
    let p = err_from_is_err_and c.from_residual-in_err-columns.result c.from_residual-in_err-columns.ensures.1 in
    rw (p.1, p.2) (columns_missing (g.D.Read.remaining c.args.settings.now) (g.D.Read.remaining c.args.blocks.now)
    (g.D.Read.remaining c.args.prec.now) c.in_ok-settings.settings c.in_ok-settings.ensures.read
    c.in_err-columns.field-0.0 c.in_err-columns.ensures.columns)

pub returns-in_err-factors-clause-read : goal.returns-in_err-factors-clause-read
returns-in_err-factors-clause-read g c =
    let p = err_from_is_err_and c.from_residual-in_err-factors.result c.from_residual-in_err-factors.ensures.1 in
    rw (p.1, p.2) (factors_refused (g.D.Read.remaining c.args.settings.now) (g.D.Read.remaining c.args.blocks.now)
    (g.D.Read.remaining c.args.prec.now) c.in_ok-settings.settings c.in_ok-settings.ensures.read
    c.in_ok-columns.ensures.columns.1 c.in_err-factors.field-0.0
    c.in_err-factors.ensures.fault)

pub returns-in_err-prices-clause-read : goal.returns-in_err-prices-clause-read
returns-in_err-prices-clause-read g c =
    let p = err_from_is_err_and c.from_residual-in_err-prices.result c.from_residual-in_err-prices.ensures.1 in
    let columns = c.in_ok-columns.ensures.columns in
    let o = g.D.Read.remaining c.args.settings.now in
    let q = g.D.Read.remaining c.args.blocks.now in
    let r = g.D.Read.remaining c.args.prec.now in
    let said = c.in_ok-settings.settings in
    rw (p.1, p.2) (mine_fails o q r said c.in_err-prices.field-0.0 c.in_ok-settings.ensures.read columns.1
    (prices_answer o q r said c.in_err-prices.field-0.0 c.in_ok-settings.ensures.read
    (prices_known false said columns.1)
    (prices_unsaid q c.in_ok-columns.columns said c.in_err-prices.field-0.0 columns.0
    c.in_err-prices.ensures.read)))

pub returns-in_err-predecessors-clause-read : goal.returns-in_err-predecessors-clause-read
returns-in_err-predecessors-clause-read g c =
    let p = err_from_is_err_and c.from_residual-in_err-predecessors.result
    c.from_residual-in_err-predecessors.ensures.1 in
    let columns = c.in_ok-columns.ensures.columns in
    let o = g.D.Read.remaining c.args.settings.now in
    let q = g.D.Read.remaining c.args.blocks.now in
    let r = g.D.Read.remaining c.args.prec.now in
    let said = c.in_ok-settings.settings in
    rw (p.1, p.2) (mine_fails o q r said c.in_err-predecessors.field-0.0 c.in_ok-settings.ensures.read columns.1
    (prec_answer o q r said c.in_ok-prices.prices c.len.result c.in_err-predecessors.field-0.0 c.len.ensures.is
    c.len.ensures.table.revenues (prices_known false said columns.1) c.in_ok-settings.ensures.read
    (prices_said q c.in_ok-columns.columns said c.in_ok-prices.prices columns.0 c.in_ok-prices.ensures.read)
    c.in_err-predecessors.ensures.read))

pub returns-clause-read : goal.returns-clause-read
returns-clause-read g c =
    let columns = c.in_ok-columns.ensures.columns in
    let o = g.D.Read.remaining c.args.settings.now in
    let q = g.D.Read.remaining c.args.blocks.now in
    let r = g.D.Read.remaining c.args.prec.now in
    let said = c.in_ok-settings.settings in
    mine_read o q r said c.in_ok-prices.prices c.in_ok-predecessors.predecessors c.in_ok-factors.factors.items
    c.factor_of-factor.result c.in_ok-settings.ensures.read columns.1 c.in_ok-factors.ensures.factors.0
    c.factor_of-factor.ensures
    (mine_answer o q r said c.in_ok-prices.prices c.in_ok-predecessors.predecessors c.len.result c.len.ensures.is
    c.len.ensures.table.revenues (prices_known false said columns.1) c.in_ok-settings.ensures.read
    (prices_said q c.in_ok-columns.columns said c.in_ok-prices.prices columns.0 c.in_ok-prices.ensures.read)
    c.in_ok-predecessors.ensures.read)

pub returns-in_err-predecessors-clause-kept : goal.returns-in_err-predecessors-clause-kept
returns-in_err-predecessors-clause-kept g c = λ n. (
  went c.in_ok-settings.settings c.in_ok-settings.ensures.kept,
  went c.in_ok-prices.prices
      c.in_ok-prices.ensures.kept,
  stayed c.from_residual-in_err-predecessors.result c.in_err-predecessors.field-0.0
      c.from_residual-in_err-predecessors.ensures.1 c.in_err-predecessors.ensures.kept n,
)
