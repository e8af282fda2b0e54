use Rattle.fixed_worth.proofs.Common.{arith, to_z-of_z}
use Rattle.slope_offsets.proofs.Distances.{distance_fits}
use Rattle.slope_offsets.proofs.cone.is_near.Goals as goal

pub overflow_mul-result-4 : goal.overflow_mul-result-4
overflow_mul-result-4 c =
    let x = c.ranges.x in
    let y = c.ranges.y in
    let along = simp to_z-of_z at c.unsigned_abs-along.ensures.value in
    let across = simp to_z-of_z at c.unsigned_abs-across.ensures.value in
    let h = distance_fits c.args.level.rise c.unsigned_abs-along.result c.unsigned_abs-across.result
    c.requires.level.small_rise (omega (arith, along)) (omega (arith, across)) in
    omega (arith, h)
