use Rattle.std.proofs.Common.{List, ℕ, ◌∷◌, ap, ◌∙◌, arith, length}
use Rattle.prec_file.proofs.LineDigits.{line_put}
use Rattle.prec_file.proofs.line_text.LineText.set.Goals as goal

pub put-requires : goal.put-requires
put-requires c = omega (arith, ap length c.clear.ensures)

pub put_all-requires : goal.put_all-requires
put_all-requires c = omega (arith, ap length c.put.ensures, ap length c.clear.ensures, c.requires)

pub put_number-requires : goal.put_number-requires
put_number-requires c = omega
    (arith, c.put_all.ensures.few, ap length c.put.ensures, ap length c.clear.ensures, c.requires)

pub put-requires-2 : goal.put-requires-2
put-requires-2 c = omega (
  arith,
  c.put_number.ensures.few,
  c.put_all.ensures.few,
  ap length c.put.ensures,
  ap length c.clear.ensures,
  c.requires,
)

pub put_number-requires-2 : goal.put_number-requires-2
put_number-requires-2 c = omega (
  arith,
  ap length c.put-2.ensures,
  c.put_number.ensures.few,
  c.put_all.ensures.few,
  ap length c.put.ensures,
  ap
      length c.clear.ensures,
  c.requires,
)

pub returns : goal.returns
returns c =
    line_put c.args.block (length c.args.above.now) c.args.above.now _ _ _ _ _
    (c.put.ensures ∙ ap (λ (t : List ℕ). 10 ∷ t) c.clear.ensures) c.put_all.ensures.numbers
    c.put_number.ensures.digits c.put-2.ensures c.put_number-2.ensures.digits
