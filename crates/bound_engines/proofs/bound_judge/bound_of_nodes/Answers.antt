use Rattle.fixed_worth.proofs.Common.{rules, ℤ, ◌+ℤ◌, ◌∙◌, ap, sym, subst, SFits, w128, to_z-of_z}
use Rattle.schedules.specs.Prelude.{price_of_capacities}
use Rattle.production_figures.specs.Figures.{production_of}
use Rattle.expanded_mine.specs.Prelude.{price_by}
use Rattle.bound_engines.specs.declared.bound_judge.BoundJudgement.TheVariants as told
use Rattle.bound_engines.specs.declared.nodes_judge.NodesJudged.{NodesJudged}
use Rattle.bound_engines.specs.Bounded.{IsJudgedOf, IsToldBy}
use Rattle.bound_engines.proofs.Bounded.{told_bound}
use Rattle.bound_engines.proofs.bound_judge.bound_of_nodes.Goals as goal

pub returns-in-Some-clause-told : goal.returns-in-Some-clause-told
returns-in-Some-clause-told g c =
    let e = c.args.expanded in
    let fits : SFits w128 c.in-Some.bound = search rules in
    let P : NodesJudged → Type 0 = λ j. IsJudgedOf e.pairs c.as_slice.result.now j in
    let Q : ℤ → Type 0 = λ z. IsToldBy e.figures e.prices.items e.pairs e.worths.items (told.Bound z) in
    let worth_fits : SFits w128 c.in-Richest.worth = search rules in
    let listed = c.as_slice-in-Richest.result.now in
    subst Q (sym (to_z-of_z w128 c.in-Some.bound fits))
    (told_bound e.figures e.prices.items listed e.pairs e.worths.items c.as_slice.result.now
    c.as_slice-in-Richest.ensures.value c.as_slice.ensures.value c.in-Richest.worth c.in-Some.bound
    (subst P c.in-Richest.is c.in-Ok.ensures.is)
    (λ base. c.in-Some.ensures.exact base
    ∙ ap (λ (z : ℤ). z +ℤ price_of_capacities (production_of base e.figures) (price_by e.figures listed))
    (to_z-of_z w128 c.in-Richest.worth worth_fits)))
