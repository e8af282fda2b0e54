use Rattle.fixed_worth.proofs.Common.{◌≡◌, ℕ, Bool, false, true, Option, None, Some, IfSome, cond, rules, ap, subst}
use Rattle.fixed_worth.proofs.Common.{err_from_is_err_and}
use Rattle.settings_file.specs.Settings.{first_missing, is_said}
use Rattle.settings_file.specs.declared.keys.Key.TheVariants.{Slopes}
use Rattle.mine_inputs.specs.Prelude.{BlocksReadFails, ReadsBlocks, columns_for, placing_keys}
use Rattle.mine_inputs.proofs.ValuedAnswers.{slopes_unsaid, blocks_unread, placed_read}
use Rattle.mine_inputs.proofs.valued_texts.placed_texts_from.Goals as goal

pub returns-then-not-says-clause-read : goal.returns-then-not-says-clause-read
returns-then-not-says-clause-read g c =
    let said = c.in_ok-settings.settings in
    let unsaid : is_said said Slopes ≡ false = search rules in
    rw c.missing.ensures (slopes_unsaid (g.D.Read.remaining c.args.settings.now)
    (g.D.Read.remaining c.args.blocks.now) said c.in_ok-settings.ensures.read unsaid)

pub returns-in_err-model-clause-read : goal.returns-in_err-model-clause-read
returns-in_err-model-clause-read g c =
    let p = err_from_is_err_and c.from_residual-in_err-model.result c.from_residual-in_err-model.ensures.1 in
    let said = c.in_ok-settings.settings in
    let e = c.in_err-model.field-0.0 in
    let slopes : is_said said Slopes ≡ true = search rules in
    let whole : first_missing (placing_keys said) said ≡ None = ap (λ (t : Bool). cond t None (Some Slopes)) slopes in
    rw (p.1, p.2) (blocks_unread (g.D.Read.remaining c.args.settings.now) (g.D.Read.remaining c.args.blocks.now) said
    c.in_ok-settings.ensures.read whole e
    (subst (λ (o : Option ℕ). IfSome (g.D.Read.remaining c.args.blocks.now)
    (λ b. BlocksReadFails (columns_for o) b e)) c.region.ensures.value c.in_err-model.ensures.read))

pub returns-clause-read : goal.returns-clause-read
returns-clause-read g c =
    let said = c.in_ok-settings.settings in
    let m = c.in_ok-model.model in
    let slopes : is_said said Slopes ≡ true = search rules in
    let whole : first_missing (placing_keys said) said ≡ None = ap (λ (t : Bool). cond t None (Some Slopes)) slopes in
    placed_read (g.D.Read.remaining c.args.settings.now) (g.D.Read.remaining c.args.blocks.now) said
    c.in_ok-settings.ensures.read whole m
    (subst (λ (o : Option ℕ). IfSome (g.D.Read.remaining c.args.blocks.now) (λ b. ReadsBlocks (columns_for o) b m))
    c.region.ensures.value c.in_ok-model.ensures.read)
