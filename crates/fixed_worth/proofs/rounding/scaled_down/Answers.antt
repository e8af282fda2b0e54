use Rattle.std.proofs.Common.{sym, arith}
use Rattle.fixed_worth.proofs.Powers.{ten_most, ten_positive, rounds_away}
use Rattle.fixed_worth.proofs.rounding.scaled_down.Goals as goal

pub returns-then-k-gt37 : goal.returns-then-k-gt37
returns-then-k-gt37 c = sym (rounds_away c.args.m c.args.k c.requires c.if-k-gt37.true)

pub overflow_add-result : goal.overflow_add-result
overflow_add-result c = let t = ten_most c.args.k c.if-k-gt37.false in omega (arith, t)

pub overflow_mul-result-2 : goal.overflow_mul-result-2
overflow_mul-result-2 c = let t = ten_most c.args.k c.if-k-gt37.false in omega (arith, t)

pub nonzero_div-result : goal.nonzero_div-result
nonzero_div-result c = let t = ten_positive c.args.k in omega (arith, t)
