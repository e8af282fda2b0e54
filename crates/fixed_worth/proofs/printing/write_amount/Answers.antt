use Rattle.std.proofs.Common.{arith}
use Rattle.fixed_worth.proofs.Powers.{ten_positive, rest_below, rest_small}
use Rattle.fixed_worth.proofs.printing.write_amount.Goals as goal

pub nonzero_div-whole : goal.nonzero_div-whole
nonzero_div-whole g c = let t = ten_positive c.args.places in omega arith

pub nonzero_rem-fraction : goal.nonzero_rem-fraction
nonzero_rem-fraction g c = let t = ten_positive c.args.places in omega arith

pub overflow_cast-fraction : goal.overflow_cast-fraction
overflow_cast-fraction g c = rw c.power_of_ten-unit.ensures
    (let r = rest_small c.unsigned_abs-size.result c.args.places c.requires in omega (arith, r))

pub write_fraction-requires : goal.write_fraction-requires
write_fraction-requires g c = rw c.power_of_ten-unit.ensures (rest_below c.unsigned_abs-size.result c.args.places)
