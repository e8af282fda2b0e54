use Rattle.fixed_worth.proofs.Common.{◌≡◌, ◌<◌, ◌+◌, ◌==◌, ℕ, List, length, get_or, arith, ap, ◌∙◌, refl, sym}
use Rattle.fixed_worth.proofs.Common.{length-map}
use Rattle.ordered_group.specs.Sums.{amount_at}
use Rattle.prec_file.specs.Rests.{IsRising, from_at, to_at, numbers, above_of, count_ending_below}
use Rattle.prec_file.proofs.Order.{own_at}
use Rattle.prec_file.proofs.Passing.{passing_at}
use Rattle.check_pit.proofs.Over.{all_in, all_fit, one_overflows, sum_more, fits_more}
use Rattle.check_pit.proofs.sums.with_outflow.Goals as goal

-- the pair after the first i of b
module _ (ps : List (ℕ × ℕ)) (rising : IsRising ps) (b i first : ℕ) (above : List ℕ) (is : above ≡ above_of ps b)
    (at : first ≡ count_ending_below (from_at ps) b (length ps)) (l : i < length above) where
  inside : i < length (numbers (from_at ps) b (length ps))
  inside = let size = ap length is ∙ length-map (numbers (from_at ps) b (length ps)) (to_at ps) in omega
      (arith, size, l)

  own : get_or (numbers (from_at ps) b (length ps)) i 0 ≡ first + i
  own = own_at ps rising b i inside ∙ ap (λ x. x + i) (sym at)

  below : first + i < length ps
  below = let k = (passing_at (λ k. from_at ps k == b) (length ps) i inside).below in omega (arith, own, k)

pub overflow_cast-i : goal.overflow_cast-i
overflow_cast-i g c = omega (
  arith,
  below _ c.len-n.ensures.all.rising _ c.loop-i.i _ _ c.above-count.ensures c.first-first.ensures
      (omega arith),
  c.len-n.ensures.few,
)

pub overflow_add-first : goal.overflow_add-first
overflow_add-first g c = omega (
  arith,
  below _ c.len-n.ensures.all.rising _ c.loop-i.i _ _ c.above-count.ensures c.first-first.ensures
      (omega arith),
  c.len-n.ensures.few,
)

pub at-requires-after_bounds : goal.at-requires-after_bounds
at-requires-after_bounds g c = omega (
  arith,
  below _ c.len-n.ensures.all.rising _ c.loop-i.i _ _ c.above-count.ensures c.first-first.ensures
      (omega arith),
  c.requires.lengths,
)

pub returns-in_err-sum : goal.returns-in_err-sum
returns-in_err-sum g c =
    let ps = c.args.rests.now.pairs in
    let f = amount_at c.args.carried.now in
    let l = inside ps c.len-n.ensures.all.rising c.args.b c.loop-i.i c.first-first.result c.above-count.result.now
    c.above-count.ensures c.first-first.ensures (omega arith) in
    let q = ap f (own ps c.len-n.ensures.all.rising c.args.b c.loop-i.i c.first-first.result c.above-count.result.now
    c.above-count.ensures c.first-first.ensures (omega arith)) ∙ sym c.at.ensures in
    rw c.from_residual.ensures
    (one_overflows (g.G.OrderedGroup.parts_of c.args.start) (from_at ps) f c.args.b (length ps)
    (numbers (from_at ps) c.args.b (length ps)) refl c.loop-i.i _ _ l c.loop-i.invariant.so_far q
    c.in_err-sum.ensures)

pub loop-i-preserved : goal.loop-i-preserved
loop-i-preserved g c =
    let f = amount_at c.args.carried.now in
    let q = ap f (own _ c.len-n.ensures.all.rising _ _ _ _ c.above-count.ensures c.first-first.ensures (omega arith))
    ∙ sym c.at.ensures in
    record {
      so_far = sum_more _ f (numbers (from_at c.args.rests.now.pairs) c.args.b (length c.args.rests.now.pairs)) _ _ _
          _ c.loop-i.invariant.so_far q c.in_ok-sum.ensures.1;
      fits = fits_more _ f _ _ _ _ c.loop-i.invariant.so_far q c.in_ok-sum.ensures.0 c.loop-i.invariant.fits;
    }

pub returns : goal.returns
returns g c =
    let ks = numbers (from_at c.args.rests.now.pairs) c.args.b (length c.args.rests.now.pairs) in
    let all : c.loop-i.i ≡ length ks = omega (arith, ap length c.above-count.ensures ∙ length-map ks _) in (
      all_in _ _ _ c.args.b _ _ refl _ _ all c.loop-i.invariant.so_far,
      all_fit _ _ _ _ _ _ refl _ all
          c.loop-i.invariant.fits,
    )
