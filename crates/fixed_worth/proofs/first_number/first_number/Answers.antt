use Rattle.std.proofs.Common.{◌<◌, arith}
use Rattle.fixed_worth.proofs.FirstNumbers.{short_number}
use Rattle.fixed_worth.proofs.first_number.first_number.Goals as goal

pub returns : goal.returns
returns c =
    let e = c.leading_digits-value.ensures in
    let some : 0 < c.leading_digits-value.result.1 = omega (arith, c.if-width-eq0.false) in
    short_number c.args.text.now c.split_at.result.1.now c.in_ok-rest.rest.now c.leading_digits-value.result.1
    c.leading_digits-value.result.0 some e.within e.few e.digits e.value c.split_at.ensures.back
    c.in_ok-rest.ensures.rest c.in_ok-rest.ensures.ends
