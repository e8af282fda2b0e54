use Rattle.std.proofs.Common.{◌∷◌, sym, ap, ◌∙◌}
use Rattle.prec_file.proofs.Shapes.{texts, unread_alone, unread_first}
use Rattle.prec_file.proofs.records.fault_before_numbers.Goals as goal

pub returns-in-None : goal.returns-in-None
returns-in-None c =
    let e = ap texts (sym c.new-fields.ensures.fields ∙ c.in_ok-first.ensures.steps
    ∙ ap (λ rs. record { text = c.in_ok-first.first.text.now; place = c.in_ok-first.first.place } ∷ rs)
    c.in-None.ensures.steps.0) in
    unread_alone c.args.line _ c.in_ok-first.first.text.now e (sym c.is_remark.ensures ∙ c.if-is_remark.false)

pub returns-in-Some : goal.returns-in-Some
returns-in-Some c =
    let e = ap texts (sym c.new-fields.ensures.fields ∙ c.in_ok-first.ensures.steps
    ∙ ap (λ rs. record { text = c.in_ok-first.first.text.now; place = c.in_ok-first.first.place } ∷ rs)
    c.in-Some.ensures.steps) in
    unread_first c.args.line _ c.in_ok-first.first.text.now c.in-Some.field-0.text.now (texts c.next-2.new.self) e
    (sym c.is_remark.ensures ∙ c.if-is_remark.false) c.requires.unread
