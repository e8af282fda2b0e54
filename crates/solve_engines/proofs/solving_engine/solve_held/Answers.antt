use Rattle.std.proofs.Common.{refl, sym, subst}
use Rattle.ordered_group.specs.declared.groups.Group.{Group}
use Rattle.solve_engines.specs.Solving.{Solves}
use Rattle.solve_engines.proofs.solving_engine.solve_held.Goals as goal

pub returns-in-Worth-clause-answer : goal.returns-in-Worth-clause-answer
returns-in-Worth-clause-answer g c = λ texts read at.
    let P : Group → Type 0 = λ k. Solves texts k c.args.asked.effort.method c.args.asked.effort.steps
    (g.W.Write.contents c.args.out.now) (g.W.Write.contents c.solve_held_by.new.out) c.solve_held_by.result in
    subst P (sym c.in-Worth.is) (c.solve_held_by.ensures.answer texts read at
    (record { block_is = refl; counts_is = refl; proves = c.greatest_set_is_richest_pit.ensures }))

pub returns-in-Pair-clause-answer : goal.returns-in-Pair-clause-answer
returns-in-Pair-clause-answer g c = λ texts read at.
    let P : Group → Type 0 = λ k. Solves texts k c.args.asked.effort.method c.args.asked.effort.steps
    (g.W.Write.contents c.args.out.now) (g.W.Write.contents c.solve_held_by-in-Pair.new.out)
    c.solve_held_by-in-Pair.result in
    subst P (sym c.in-Pair.is) (c.solve_held_by-in-Pair.ensures.answer texts read at
    (record { block_is = refl; counts_is = refl; proves = c.greatest_set_is_best_pit.ensures }))

pub returns-in-Scaled-clause-answer : goal.returns-in-Scaled-clause-answer
returns-in-Scaled-clause-answer g c = λ texts read at.
    let P : Group → Type 0 = λ k. Solves texts k c.args.asked.effort.method c.args.asked.effort.steps
    (g.W.Write.contents c.args.out.now) (g.W.Write.contents c.solve_held_by-in-Scaled.new.out)
    c.solve_held_by-in-Scaled.result in
    subst P (sym c.in-Scaled.is) (c.solve_held_by-in-Scaled.ensures.answer texts read at
    (record { block_is = refl; counts_is = refl; proves = c.greatest_set_is_best_pit-2.ensures }))
