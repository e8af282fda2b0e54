use Rattle.std.proofs.Common.{◌≡◌, ◌-◌, ◌++◌, length, take, replicate, ap, ◌∙◌, [], ◌∷◌, decimal}
use Rattle.upit_file.proofs.RecordLines.{no_fraction_pushed, fraction_pushed}
use Rattle.upit_file.proofs.written_record.push_fraction.Goals as goal

pub returns-then-millionths-eq0 : goal.returns-then-millionths-eq0
returns-then-millionths-eq0 c = no_fraction_pushed c.args.millionths c.args.line.now c.if-millionths-eq0.true

pub returns : goal.returns
returns c =
    let line : c.push-3.new.self
    ≡ ((c.args.line.now ++ (46 ∷ [])) ++ take c.saturating_sub-zeros.result (replicate 6 48))
    ++ c.of-number.result = c.push-3.ensures.text ∙ ap (λ xs. c.push-2.new.self ++ xs) c.as_bytes-2.ensures ∙ ap
    (λ xs. xs ++ c.of-number.result)
    (c.push-2.ensures.text ∙ ap (λ xs. c.push.new.self ++ xs) c.split_at.ensures.front
    ∙ ap (λ xs. xs ++ take c.saturating_sub-zeros.result (replicate 6 48)) c.push.ensures.text) in
    fraction_pushed c.args.millionths c.trimmed_fraction-digits.result.1 c.trimmed_fraction-digits.result.0
    c.saturating_sub-zeros.result c.args.line.now c.of-number.result c.push-3.new.self c.if-millionths-eq0.false
    c.trimmed_fraction-digits.ensures.same (c.of-number.ensures.digits ∙ ap decimal c.from.ensures)
    (c.saturating_sub-zeros.ensures ∙ ap (λ xs. c.trimmed_fraction-digits.result.1 - length xs) c.as_bytes.ensures)
    c.trimmed_fraction-digits.ensures.shown.1 line
