use Rattle.std.proofs.Common.{◌≡◌, ◌∷◌, ◌∙◌, ◌++◌, ap, rules, pos, get_or}
use Rattle.fixed_worth.specs.Printed.{amount_text}
use Rattle.bench_report.proofs.WayLines.{fields_more}
use Rattle.bench_report.proofs.table_with_ways.fields_of.Goals as goal

pub loop-i-preserved : goal.loop-i-preserved
loop-i-preserved c =
    let field : c.as_bytes.result.now ≡ 44 ∷ amount_text 6 (get_or c.as_slice-list.result.now c.args.place (pos 0)) =
    search (rules, c.as_bytes.ensures.value, c.in_ok-field.ensures.ok) in
    fields_more c.args.by_way.now c.args.place c.loop-i.i _ c.loop-i.text.items _ c.loop-i-test.true c.loop-i.invariant
    (c.in_ok-extend_from_slice.ensures.items
    ∙ ap (λ xs. c.loop-i.text.items ++ xs)
    (field ∙ ap (λ xs. 44 ∷ amount_text 6 (get_or xs c.args.place (pos 0))) c.as_slice-list.ensures.value
    ∙ ap (λ list. 44 ∷ amount_text 6 (get_or list.items c.args.place (pos 0))) c.index-by_way-i.is))
