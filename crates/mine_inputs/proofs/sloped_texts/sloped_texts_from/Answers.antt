use Rattle.fixed_worth.proofs.Common.{ℕ, subst, Option, IfSome, err_from_is_err_and}
use Rattle.mine_inputs.specs.Prelude.{BlocksReadFails, ReadsBlocks, columns_beside, columns_for}
use Rattle.mine_inputs.proofs.SlopedAnswers.{key_unsaid, blocks_unread, texts_read}
use Rattle.mine_inputs.proofs.sloped_texts.sloped_texts_from.Goals as goal

pub returns-in_err-columns-clause-read : goal.returns-in_err-columns-clause-read
returns-in_err-columns-clause-read g c = λ factor.
    let p = err_from_is_err_and c.from_residual-in_err-columns.result c.from_residual-in_err-columns.ensures.1 in
    rw (p.1, p.2) (key_unsaid (g.D.Read.remaining c.args.settings.now) (g.D.Read.remaining c.args.blocks.now) factor
    c.in_ok-settings.settings c.in_ok-settings.ensures.read c.in_err-columns.field-0.0
    c.in_err-columns.ensures.columns)

pub returns-in_err-model-clause-read : goal.returns-in_err-model-clause-read
returns-in_err-model-clause-read g c = λ factor.
    let p = err_from_is_err_and c.from_residual-in_err-model.result c.from_residual-in_err-model.ensures.1 in
    let e = c.in_err-model.field-0.0 in
    let columns = c.in_ok-columns.ensures.columns in
    rw (p.1, p.2) (blocks_unread (g.D.Read.remaining c.args.settings.now) (g.D.Read.remaining c.args.blocks.now)
    factor c.in_ok-settings.settings c.in_ok-settings.ensures.read columns.1 c.in_ok-columns.columns columns.0 e
    (subst (λ (o : Option ℕ). IfSome (g.D.Read.remaining c.args.blocks.now)
    (λ b. BlocksReadFails (columns_beside c.in_ok-columns.columns (columns_for o)) b e)) c.region.ensures.value
    c.in_err-model.ensures.read))

pub returns-clause-read : goal.returns-clause-read
returns-clause-read g c = λ factor.
    let columns = c.in_ok-columns.ensures.columns in
    let m = c.in_ok-model.model in
    texts_read (g.D.Read.remaining c.args.settings.now) (g.D.Read.remaining c.args.blocks.now) factor
    c.in_ok-settings.settings c.in_ok-settings.ensures.read columns.1 c.in_ok-columns.columns columns.0 m
    (subst (λ (o : Option ℕ). IfSome (g.D.Read.remaining c.args.blocks.now)
    (λ b. ReadsBlocks (columns_beside c.in_ok-columns.columns (columns_for o)) b m)) c.region.ensures.value
    c.in_ok-model.ensures.read)
