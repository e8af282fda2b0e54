use Rattle.fixed_worth.proofs.Common.{ℕ, IfSome, subst, err_from_is_err_and}
use Rattle.mine_inputs.specs.Prelude.{ReadsValues, ValuesReadFail}
use Rattle.mine_inputs.proofs.ValuedAnswers.{values_unread, texts_read}
use Rattle.mine_inputs.proofs.valued_texts.valued_texts_from.Goals as goal

pub returns-in_err-values-clause-read : goal.returns-in_err-values-clause-read
returns-in_err-values-clause-read g c =
    let p = err_from_is_err_and c.from_residual-in_err-values.result c.from_residual-in_err-values.ensures.1 in
    let read = c.in_ok-settings.field-0 in
    let e = c.in_err-values.field-0.0 in
    rw (p.1, p.2) (values_unread (g.D.Read.remaining c.args.settings.now) (g.D.Read.remaining c.args.blocks.now)
    (g.D.Read.remaining c.args.upit.now) read.settings read.model c.in_ok-settings.ensures.read e
    (subst (λ (n : ℕ). IfSome (g.D.Read.remaining c.args.upit.now) (λ v. ValuesReadFail n v e)) c.len.ensures.value
    c.in_err-values.ensures.read))

pub returns-clause-read : goal.returns-clause-read
returns-clause-read g c =
    let read = c.in_ok-settings.field-0 in
    let values = c.in_ok-values.values in
    texts_read (g.D.Read.remaining c.args.settings.now) (g.D.Read.remaining c.args.blocks.now)
    (g.D.Read.remaining c.args.upit.now) read.settings read.model c.in_ok-settings.ensures.read values
    (subst (λ (n : ℕ). IfSome (g.D.Read.remaining c.args.upit.now) (λ v. ReadsValues n v values)) c.len.ensures.value
    c.in_ok-values.ensures.read)
