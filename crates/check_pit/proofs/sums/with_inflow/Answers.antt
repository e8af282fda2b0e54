use Rattle.fixed_worth.proofs.Common.{◌≡◌, length, arith, sym, common_steps}
use Rattle.ordered_group.specs.Sums.{amount_at}
use Rattle.prec_file.specs.Rests.{to_at}
use Rattle.check_pit.proofs.Over.{number_below, all_in, all_fit, one_overflows, sum_more, fits_more}
use Rattle.check_pit.proofs.sums.with_inflow.Goals as goal

pub at-requires-after_bounds : goal.at-requires-after_bounds
at-requires-after_bounds g c = omega (
  arith,
  number_below (g.G.OrderedGroup.parts_of c.args.start) _ (amount_at c.args.carried.now) c.args.b _ _
      c.below-numbers.ensures c.loop-k.k-index (omega arith),
  c.requires.lengths,
)

pub returns-in_err-sum : goal.returns-in_err-sum
returns-in_err-sum g c = rw c.from_residual.ensures
    (one_overflows _ _ _ _ _ _ c.below-numbers.ensures _ _ _ (omega arith) c.loop-k.invariant.so_far
    (sym c.at.ensures) c.in_err-sum.ensures)

pub loop-k-preserved : goal.loop-k-preserved
loop-k-preserved g c = grind (arith, common_steps, sum_more, fits_more)

pub returns : goal.returns
returns g c =
    let parts = g.G.OrderedGroup.parts_of in
    let ks = c.below-numbers.result.now in
    let end = to_at c.args.rests.now.pairs in
    let m = length c.args.rests.now.pairs in
    let f = amount_at c.args.carried.now in
    let all : c.loop-k.k-index ≡ length ks = omega arith in (
      all_in (parts c.args.start) end f c.args.b m ks c.below-numbers.ensures c.loop-k.k-index _ all
          c.loop-k.invariant.so_far,
      all_fit (parts c.args.start) end f c.args.b m ks c.below-numbers.ensures c.loop-k.k-index all
          c.loop-k.invariant.fits,
    )
