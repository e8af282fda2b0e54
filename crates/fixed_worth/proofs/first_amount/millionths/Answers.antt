use Rattle.std.proofs.Common.{arith}
use Rattle.fixed_worth.proofs.FirstAmounts.{small_sum}
use Rattle.fixed_worth.proofs.first_amount.millionths.Goals as goal

pub overflow_add-result : goal.overflow_add-result
overflow_add-result c =
    let s = small_sum c.args.whole c.args.fraction c.args.places c.requires.whole c.requires.places
    c.requires.fraction in
    rw c.unit_of_place.ensures (omega (arith, s))

pub returns-clause-bound : goal.returns-clause-bound
returns-clause-bound c =
    let s = small_sum c.args.whole c.args.fraction c.args.places c.requires.whole c.requires.places
    c.requires.fraction in
    rw c.unit_of_place.ensures s
