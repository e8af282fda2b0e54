use Rattle.fixed_worth.proofs.Common.{rules, ◌≡◌, ℕ, ℤ, ap, sym, ◌∙◌, SFits, w128, to_z-of_z}
use Rattle.std.specs.Int.{int_max}
use Rattle.production_figures.specs.Figures.{FiguresView}
use Rattle.expanded_mine.specs.Prelude.{figures_by, left_by}
use Rattle.expanded_mine.proofs.GreatestWays.{most_next, next_way}
use Rattle.expanded_mine.proofs.node_worths.most_at.Goals as goal

pub loop-d-preserved : goal.loop-d-preserved
loop-d-preserved c =
    let f = c.args.figures.now in
    let others = c.args.others.now in
    let way : FiguresView → ℤ = λ g. left_by g c.args.prices.now c.args.b c.args.t in
    let fits : SFits w128 c.max-most.result = search rules in
    let left_fits : SFits w128 c.in-Some-left_at.left = search rules in
    let here = c.in-Some-left_at.ensures
    ∙ ap way (next_way f others c.loop-d.d c.index-others-d.result c.loop-d-test.true c.index-others-d.is) in
    let is : c.max-most.result ≡ int_max c.loop-d.most c.in-Some-left_at.left = rw
    (to_z-of_z w128 c.in-Some-left_at.left left_fits, c.loop-d.most-is) at c.max-most.ensures.value in
    to_z-of_z w128 c.max-most.result fits
    ∙ most_next (λ (e : ℕ). way (figures_by f others e)) c.loop-d.d c.loop-d.most c.in-Some-left_at.left
    c.max-most.result (sym c.loop-d.most-is ∙ c.loop-d.invariant) here is
