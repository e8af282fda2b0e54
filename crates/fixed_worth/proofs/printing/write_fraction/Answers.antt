use Rattle.fixed_worth.proofs.Common.{◌∷◌, ap, ◌∙◌, styled_decimal, has_written_of_eq, writes_in_calls_nil}
use Rattle.fixed_worth.proofs.Shown.{no_fraction, some_fraction}
use Rattle.fixed_worth.proofs.printing.write_fraction.Goals as goal

pub returns-then-fraction-eq0 : goal.returns-then-fraction-eq0
returns-then-fraction-eq0 g c = λ p ok. has_written_of_eq _ _ _ _ _
    (no_fraction c.args.places c.args.fraction c.if-fraction-eq0.true)
    (record { wrote = writes_in_calls_nil _ _; plain = p })

pub returns : goal.returns
returns g c = λ p ok. has_written_of_eq _ _ _ _ _
    (ap (λ s. 46 ∷ styled_decimal s c.trimmed_fraction-digits.result.0) c.laid_out.ensures
    ∙ some_fraction c.args.places c.args.fraction c.trimmed_fraction-digits.result.1
    c.trimmed_fraction-digits.result.0 c.if-fraction-eq0.false c.trimmed_fraction-digits.ensures.same
    c.trimmed_fraction-digits.ensures.shown.0) (c.write.ensures.writes p ok)
