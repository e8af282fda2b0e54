use Rattle.std.proofs.Common.{refl, sym, subst}
use Rattle.ordered_group.specs.declared.groups.Group.{Group}
use Rattle.traced_engine.specs.TracedRuns.{Traces}
use Rattle.traced_engine.proofs.tracing_engine.trace_mine.Goals as goal

pub returns-in-Worth-clause-answer : goal.returns-in-Worth-clause-answer
returns-in-Worth-clause-answer g c = λ texts read at.
    let P : Group → Type 0 = λ k. Traces texts k c.args.asked.effort.steps c.args.asked.room
    (g.V.Write.contents c.args.outputs.now.trace) (g.V.Write.contents c.trace_by.new.outputs.trace)
    (g.W.Write.contents c.args.outputs.now.out) (g.W.Write.contents c.trace_by.new.outputs.out) c.trace_by.result in
    subst P (sym c.in-Worth.is) (c.trace_by.ensures.answer texts read at
    (record { block_is = refl; counts_is = refl; proves = c.greatest_set_is_richest_pit.ensures }))

pub returns-in-Pair-clause-answer : goal.returns-in-Pair-clause-answer
returns-in-Pair-clause-answer g c = λ texts read at.
    let P : Group → Type 0 = λ k. Traces texts k c.args.asked.effort.steps c.args.asked.room
    (g.V.Write.contents c.args.outputs.now.trace) (g.V.Write.contents c.trace_by-in-Pair.new.outputs.trace)
    (g.W.Write.contents c.args.outputs.now.out) (g.W.Write.contents c.trace_by-in-Pair.new.outputs.out)
    c.trace_by-in-Pair.result in
    subst P (sym c.in-Pair.is) (c.trace_by-in-Pair.ensures.answer texts read at
    (record { block_is = refl; counts_is = refl; proves = c.greatest_set_is_best_pit.ensures }))

pub returns-in-Scaled-clause-answer : goal.returns-in-Scaled-clause-answer
returns-in-Scaled-clause-answer g c = λ texts read at.
    let P : Group → Type 0 = λ k. Traces texts k c.args.asked.effort.steps c.args.asked.room
    (g.V.Write.contents c.args.outputs.now.trace) (g.V.Write.contents c.trace_by-in-Scaled.new.outputs.trace)
    (g.W.Write.contents c.args.outputs.now.out) (g.W.Write.contents c.trace_by-in-Scaled.new.outputs.out)
    c.trace_by-in-Scaled.result in
    subst P (sym c.in-Scaled.is) (c.trace_by-in-Scaled.ensures.answer texts read at
    (record { block_is = refl; counts_is = refl; proves = c.greatest_set_is_best_pit-2.ensures }))
