use Rattle.fixed_worth.proofs.Common.{◌≡◌, ℕ, [], length, subst, arith, err_from_is_err_and}
use Rattle.blocks_file.specs.Denotes.{narrowed}
use Rattle.mine_inputs.specs.Prelude.{ArePairsBy, PairsSaidFail, SlopesRead, column_after, rests_said}
use Rattle.mine_inputs.proofs.SlopedAnswers.{regions_within, prices_refused, slopes_fail, pairs_found, sloped_read}
use Rattle.mine_inputs.proofs.held_mines.held_of_texts.Goals as goal

pub held_by_slopes-requires : goal.held_by_slopes-requires
held_by_slopes-requires c =
    regions_within c.args.read.columns [] c.args.read.settings.region c.place_beside-others.result
    (length c.args.read.model.columns) (omega (arith, c.place_beside-others.ensures)) c.requires

pub returns-in_err-prices-clause-read : goal.returns-in_err-prices-clause-read
returns-in_err-prices-clause-read c = λ factor s b t.
    let p = err_from_is_err_and c.from_residual.result c.from_residual.ensures.1 in
    rw (p.1, p.2) (prices_refused s b c.args.read.settings c.args.read.columns c.args.read.model t factor
    c.in_err-prices.field-0.0 c.in_err-prices.ensures.prices)

pub returns-in_err-predecessors-clause-read : goal.returns-in_err-predecessors-clause-read
returns-in_err-predecessors-clause-read c = λ factor s b t.
    let p = err_from_is_err_and c.from_residual-in_err-predecessors.result
    c.from_residual-in_err-predecessors.ensures.1 in
    let said = c.args.read.settings in
    let m = c.args.read.model in
    let e = c.in_err-predecessors.field-0.0 in
    let fails = subst (λ i. PairsSaidFail said (narrowed (column_after i said.region) m) e)
    c.place_beside-others.ensures c.in_err-predecessors.ensures.pairs in
    rw (p.1, p.2) (slopes_fail s b said c.args.read.columns m t c.in_ok-prices.prices c.in_ok-prices.ensures.prices
    c.len-blocks.ensures.table.revenues factor e fails)

pub returns-clause-read : goal.returns-clause-read
returns-clause-read c = λ factor s b t.
    let said = c.args.read.settings in
    let m = c.args.read.model in
    let rests = c.in_ok-predecessors.predecessors in
    let F : ℕ → Type 0 = λ i. (rests.blocks ≡ m.blocks) × SlopesRead said (narrowed (column_after i said.region) m)
    × ArePairsBy (rests_said said (narrowed (column_after i said.region) m)) rests.pairs in
    let found = subst F c.place_beside-others.ensures c.in_ok-predecessors.ensures.pairs in
    let prices = c.in_ok-prices.prices in
    let is = c.in_ok-prices.ensures.prices in
    let positive = c.len-blocks.ensures.table.revenues in
    sloped_read s b said c.args.read.columns m t prices is positive factor rests
    (pairs_found s b said c.args.read.columns m t prices is positive rests found.0 found.1 found.2)
