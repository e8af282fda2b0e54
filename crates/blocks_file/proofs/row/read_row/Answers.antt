use Rattle.fixed_worth.proofs.Common.{◌≡◌, ℕ, ◌+◌, ◌<◌, ◌∷◌, List, length, map, sym, ap, ◌∙◌, arith}
use Rattle.fixed_worth.proofs.Common.{err_from_is_err_and}
use Rattle.fixed_worth.specs.Text.{WordRun}
use Rattle.blocks_file.proofs.Rows.{field_at, row_more, row_bad}
use Rattle.blocks_file.proofs.row.read_row.Goals as goal

abbrev texts : List WordRun → List (List ℕ)
texts rs = map (λ r. r.text) rs

pub returns-in_err-take_field : goal.returns-in_err-take_field
returns-in_err-take_field c =
    let v = c.loop-field.invariant in
    let all = texts c.args.fields in
    let s : texts c.loop-field.field-iterator ≡ c.in-Some.field.text.now ∷ texts c.next.new.self = ap texts
    c.in-Some.ensures.steps in
    let e = field_at all c.loop-field.column c.in-Some.field.text.now (texts c.next.new.self) (sym s ∙ v.rest)
    (ap (λ (xs : List (List ℕ)). c.loop-field.column + length xs) (sym s) ∙ v.count) in
    let more : c.loop-field.column < length all = omega (arith, v.count, ap length s) in
    let p = err_from_is_err_and c.from_residual.result c.from_residual.ensures.1 in
    rw (p.1, p.2) (
      c.in_err-take_field.ensures.0,
      row_bad all c.loop-field.column c.in-Some.field.text.now c.args.columns.now more e.0
          c.in_err-take_field.ensures.1 c.in_err-take_field.ensures.2,
    )

pub loop-field-preserved : goal.loop-field-preserved
loop-field-preserved c =
    let v = c.loop-field.invariant in
    let all = texts c.args.fields in
    let s : texts c.loop-field.field-iterator ≡ c.in-Some.field.text.now ∷ texts c.next.new.self = ap texts
    c.in-Some.ensures.steps in
    let e = field_at all c.loop-field.column c.in-Some.field.text.now (texts c.next.new.self) (sym s ∙ v.rest)
    (ap (λ (xs : List (List ℕ)). c.loop-field.column + length xs) (sym s) ∙ v.count) in
    record {
      count = omega (arith, v.count, ap length s);
      few = v.few;
      rest = e.1;
      row = row_more c.args.columns.now all c.loop-field.column c.in-Some.field.text.now c.loop-field.row
          c.take_field.new.row v.row c.in_ok-take_field.ensures e.0;
    }
