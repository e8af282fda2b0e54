use Rattle.fixed_worth.proofs.Common.{ℕ, List, subst}
use Rattle.production_figures.specs.Figures.{FiguresView}
use Rattle.expanded_mine.specs.Prelude.{AreNodeWorths}
use Rattle.planned_mine.proofs.Expanding.{expanded_by}
use Rattle.planned_mine.proofs.planned.nodes_of_figures.Goals as goal

pub returns-clause-is : goal.returns-clause-is
returns-clause-is c = λ rests ways worth used said waits of.
    let x = c.args.figured in
    let found = c.in-Ok-worths.worths.items in
    let some = subst (λ (os : List FiguresView). AreNodeWorths x.figures os c.as_slice-2.result.now x.waits.lag
    x.waits.pairs.pairs found) c.as_slice.ensures.value c.in-Ok-worths.ensures in
    let all = subst (λ (ps : List ℕ). AreNodeWorths x.figures x.others.items ps x.waits.lag x.waits.pairs.pairs found)
    c.as_slice-2.ensures.value some in
    expanded_by rests ways worth used said waits x c.periods.result c.in-Ok.pairs found of c.periods.ensures.is
    c.in-Ok.ensures all
