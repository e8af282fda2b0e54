use Rattle.fixed_worth.proofs.Common.{ℕ, [], Option, IfSome, length, subst, arith, sym, ap, ◌∙◌, err_from_is_err_and}
use Rattle.mine_inputs.specs.Prelude.{BlocksReadFails, ReadsBlocks, columns_beside, columns_for}
use Rattle.mine_inputs.proofs.SlopedAnswers.{regions_within}
use Rattle.mine_inputs.proofs.Priced.{first_size}
use Rattle.shell_engines.proofs.Readings.{sloped_settings_unread, sloped_columns_missing, sloped_factors_refused}
use Rattle.shell_engines.proofs.Readings.{sloped_blocks_unread, sloped_prices_refused, sloped_pairs_refused}
use Rattle.shell_engines.proofs.Readings.{sloped_series_read}
use Rattle.shell_engines.proofs.series_inputs.sloped_series.Goals as goal

pub held_by_slopes-requires : goal.held_by_slopes-requires
held_by_slopes-requires g c =
    let columns = c.in_ok-columns.columns in
    let m = c.in_ok-model.model in
    let size = c.in_ok-model.ensures.columns ∙ ap (λ (o : Option ℕ). length (columns_beside columns (columns_for o)))
    c.region.ensures.value in
    regions_within columns [] c.in_ok-settings.settings.region c.place_beside-others.result (length m.columns)
    (omega (arith, c.place_beside-others.ensures)) size

pub invariant_of-result-clause-sizes : goal.invariant_of-result-clause-sizes
invariant_of-result-clause-sizes g c =
    c.in_ok-predecessors.ensures.pairs.0
    ∙ sym (first_size c.in_ok-columns.columns c.in_ok-model.model c.in_ok-prices.prices
    c.in_ok-prices.ensures.prices)

pub returns-in_err-settings-clause-read : goal.returns-in_err-settings-clause-read
returns-in_err-settings-clause-read g c =
    let p = err_from_is_err_and c.from_residual.result c.from_residual.ensures.1 in
    rw (p.1, p.2) (sloped_settings_unread (g.D.Read.remaining c.args.settings.now)
    (g.D.Read.remaining c.args.blocks.now) c.in_err-settings.field-0.0 c.in_err-settings.ensures.read)

pub returns-in_err-columns-clause-read : goal.returns-in_err-columns-clause-read
returns-in_err-columns-clause-read g c =
    let p = err_from_is_err_and c.from_residual-in_err-columns.result c.from_residual-in_err-columns.ensures.1 in
    rw (p.1, p.2) (sloped_columns_missing (g.D.Read.remaining c.args.settings.now)
    (g.D.Read.remaining c.args.blocks.now) c.in_ok-settings.settings c.in_ok-settings.ensures.read
    c.in_err-columns.field-0.0 c.in_err-columns.ensures.columns)

pub returns-in_err-factors-clause-read : goal.returns-in_err-factors-clause-read
returns-in_err-factors-clause-read g c =
    let p = err_from_is_err_and c.from_residual-in_err-factors.result c.from_residual-in_err-factors.ensures.1 in
    rw (p.1, p.2) (sloped_factors_refused (g.D.Read.remaining c.args.settings.now)
    (g.D.Read.remaining c.args.blocks.now) c.in_ok-settings.settings c.in_ok-settings.ensures.read
    c.in_ok-columns.ensures.columns.1 c.in_err-factors.field-0.0 c.in_err-factors.ensures.fault)

pub returns-in_err-model-clause-read : goal.returns-in_err-model-clause-read
returns-in_err-model-clause-read g c =
    let p = err_from_is_err_and c.from_residual-in_err-model.result c.from_residual-in_err-model.ensures.1 in
    let e = c.in_err-model.field-0.0 in
    let columns = c.in_ok-columns.ensures.columns in
    let q = g.D.Read.remaining c.args.blocks.now in
    rw (p.1, p.2) (sloped_blocks_unread (g.D.Read.remaining c.args.settings.now) q c.in_ok-settings.settings
    c.in_ok-settings.ensures.read columns.1 c.in_ok-columns.columns columns.0 e
    (subst (λ (o : Option ℕ). IfSome q
    (λ b. BlocksReadFails (columns_beside c.in_ok-columns.columns (columns_for o)) b e)) c.region.ensures.value
    c.in_err-model.ensures.read))

pub returns-in_err-prices-clause-read : goal.returns-in_err-prices-clause-read
returns-in_err-prices-clause-read g c =
    let p = err_from_is_err_and c.from_residual-in_err-prices.result c.from_residual-in_err-prices.ensures.1 in
    let columns = c.in_ok-columns.ensures.columns in
    let q = g.D.Read.remaining c.args.blocks.now in
    let m = c.in_ok-model.model in
    let blocks = subst (λ (o : Option ℕ). IfSome q
    (λ b. ReadsBlocks (columns_beside c.in_ok-columns.columns (columns_for o)) b m)) c.region.ensures.value
    c.in_ok-model.ensures.read in
    rw (p.1, p.2) (sloped_prices_refused (g.D.Read.remaining c.args.settings.now) q c.in_ok-settings.settings
    c.in_ok-settings.ensures.read columns.1 c.in_ok-columns.columns columns.0 m blocks c.in_err-prices.field-0.0
    c.in_err-prices.ensures.prices)

pub returns-in_err-predecessors-clause-read : goal.returns-in_err-predecessors-clause-read
returns-in_err-predecessors-clause-read g c =
    let p = err_from_is_err_and c.from_residual-in_err-predecessors.result
    c.from_residual-in_err-predecessors.ensures.1 in
    let columns = c.in_ok-columns.ensures.columns in
    let q = g.D.Read.remaining c.args.blocks.now in
    let m = c.in_ok-model.model in
    let blocks = subst (λ (o : Option ℕ). IfSome q
    (λ b. ReadsBlocks (columns_beside c.in_ok-columns.columns (columns_for o)) b m)) c.region.ensures.value
    c.in_ok-model.ensures.read in
    rw (p.1, p.2) (sloped_pairs_refused (g.D.Read.remaining c.args.settings.now) q c.in_ok-settings.settings
    c.in_ok-settings.ensures.read columns.1 c.in_ok-columns.columns columns.0 m blocks
    c.in_ok-prices.prices c.in_ok-prices.ensures.prices c.len-blocks.ensures.table.revenues
    c.place_beside-others.result c.place_beside-others.ensures c.in_err-predecessors.field-0.0
    c.in_err-predecessors.ensures.pairs)

pub returns-clause-read : goal.returns-clause-read
returns-clause-read g c =
    let columns = c.in_ok-columns.ensures.columns in
    let q = g.D.Read.remaining c.args.blocks.now in
    let m = c.in_ok-model.model in
    let blocks = subst (λ (o : Option ℕ). IfSome q
    (λ b. ReadsBlocks (columns_beside c.in_ok-columns.columns (columns_for o)) b m)) c.region.ensures.value
    c.in_ok-model.ensures.read in
    sloped_series_read (g.D.Read.remaining c.args.settings.now) q c.in_ok-settings.settings
    c.in_ok-settings.ensures.read columns.1 c.in_ok-columns.columns columns.0 m blocks
    c.in_ok-prices.prices c.in_ok-prices.ensures.prices c.len-blocks.ensures.table.revenues
    c.place_beside-others.result c.place_beside-others.ensures c.in_ok-predecessors.predecessors
    c.in_ok-factors.factors.items c.factor_of-factor.result c.in_ok-factors.ensures.factors.0
    c.factor_of-factor.ensures c.in_ok-predecessors.ensures.pairs
