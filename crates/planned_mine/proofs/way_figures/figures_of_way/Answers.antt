use Rattle.fixed_worth.proofs.Common.{rules, ◌≡◌, ◌*◌, ◌/◌, ◌%◌, ℕ, List, length, slice_index, subst}
use Rattle.mine_inputs.specs.Prelude.{blocks_valued, ways_valued}
use Rattle.production_figures.specs.Figures.{figures_view}
use Rattle.schedule_engines.specs.Prelude.{AreListed, amount_by}
use Rattle.planned_mine.proofs.FiguredWays.{figures_are}
use Rattle.planned_mine.proofs.way_figures.figures_of_way.Goals as goal

pub returns-in-Some-clause-is : goal.returns-in-Some-clause-is
returns-in-Some-clause-is c =
    let w = c.args.worths.now in
    let b = c.args.beside.now in
    let kept = c.args.kept.now in
    let used = c.in_ok-uses.uses.items in
    let is : c.in-Some.figures ≡ figures_view c.in_ok-nanos.nanos.items b.periods.weights.items
    (length b.periods.shared.items) used b.periods.capacities.items = search rules in
    let listed = subst (λ (xs : List ℕ). AreListed (length b.periods.shared.items * length kept)
    (λ i. amount_by xs b.periods.shared.items (ways_valued w) (blocks_valued w) (i / length kept) c.args.way
    (slice_index kept (i % length kept))) used) c.as_slice.ensures.value c.in_ok-uses.ensures in
    figures_are w c.args.factor c.args.way b kept c.in_ok-nanos.nanos.items used c.in-Some.figures is
    c.in_ok-nanos.ensures listed
