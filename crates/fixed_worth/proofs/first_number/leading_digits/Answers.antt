use Rattle.fixed_worth.proofs.Common.{◌^◌, ◌<◌, take, sym, subst, arith, length-take-le}
use Rattle.fixed_worth.specs.Numeral.{value_of}
use Rattle.fixed_worth.proofs.Digits.{value_below}
use Rattle.fixed_worth.proofs.first_number.leading_digits.Goals as goal

pub returns-clause-small : goal.returns-clause-small
returns-clause-small c =
    let text = c.args.text.now in
    let width = c.digits_in_front-width in
    let size = length-take-le width.result text (omega (arith, width.ensures.within, c.if-text-lt-WINDOW.false)) in
    subst (λ v. v < 10 ^ width.result) (sym c.value_in_front.ensures)
    (subst (λ n. value_of (take width.result text) < 10 ^ n) size
    (value_below (take width.result text) width.ensures.digits))
