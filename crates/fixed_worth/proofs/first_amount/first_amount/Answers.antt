use Rattle.fixed_worth.proofs.Common.{◌+◌, ◌-◌, ◌*◌, ◌^◌, ◌++◌, cond, pos, take, Ok, sym, ap, ◌∙◌, arith, lit<, neg_ℤ}
use Rattle.fixed_worth.proofs.Common.{take-append-drop, length-take-le, pow-le-pow_right, common_steps}
use Rattle.fixed_worth.specs.Numeral.{is_minus}
use Rattle.fixed_worth.proofs.FirstAmounts.{amount_read}
use Rattle.fixed_worth.proofs.first_amount.first_amount.Goals as goal

pub millionths-size-requires-clause-whole : goal.millionths-size-requires-clause-whole
millionths-size-requires-clause-whole c = grind (arith, common_steps, pow-le-pow_right, lit<)

pub returns : goal.returns
returns c =
    let w = c.leading_digits-whole.result.1 in
    let unsigned = c.without_sign-unsigned.result.now in
    let e = c.leading_digits-whole.ensures in
    let f = c.leading_fraction-fraction.result in
    let parts = sym c.without_sign-unsigned.ensures ∙ sym (take-append-drop w unsigned)
    ∙ ap (λ xs. take w unsigned ++ xs) (sym c.split_at.ensures.back) in
    let size = length-take-le w unsigned e.within in
    let r = amount_read c.args.text.now (take w unsigned) c.split_at.result.1.now f.rest.now c.in_ok-rest.rest.now
    f.value f.places parts c.leading_fraction-fraction.ensures e.digits (omega (arith, size)) (omega arith)
    (omega (arith, size)) c.in_ok-rest.ensures.rest c.in_ok-rest.ensures.ends in
    let size_is = c.millionths-size.ensures.value ∙ ap (λ v. v * 10 ^ 6 + f.value * 10 ^ (6 - f.places)) e.value in (
      r.0,
      r.1,
      r.2 ∙ ap Ok (sym (c.with_sign.ensures
          ∙ ap (λ t. cond t (neg_ℤ (pos c.millionths-size.result)) (pos c.millionths-size.result)) c.has_minus.ensures
          ∙ ap (λ n. cond (is_minus c.args.text.now) (neg_ℤ (pos n)) (pos n)) size_is)),
    )
