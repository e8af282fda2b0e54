use Rattle.std.proofs.Common.{refl, subst}
use Rattle.ordered_group.specs.declared.groups.Group.{Group}
use Rattle.check_engines.specs.Readings.{IsHeader}
use Rattle.check_engines.proofs.certificate_judge.judge_priced.Goals as goal

pub returns-in-Worth-clause-judged : goal.returns-in-Worth-clause-judged
returns-in-Worth-clause-judged g c = λ texts text read header stands.
    let P : Group → Type 0 = λ k. IsHeader texts text c.args.mine.predecessors.blocks k in
    c.judge_by.ensures.judged texts text read
    (record { block_is = refl; counts_is = refl; proves = c.greatest_set_is_richest_pit.ensures })
    (subst P c.in-Worth.is header) stands

pub returns-in-Pair-clause-judged : goal.returns-in-Pair-clause-judged
returns-in-Pair-clause-judged g c = λ texts text read header stands.
    let P : Group → Type 0 = λ k. IsHeader texts text c.args.mine.predecessors.blocks k in
    c.judge_by-in-Pair.ensures.judged texts text read
    (record { block_is = refl; counts_is = refl; proves = c.greatest_set_is_best_pit.ensures })
    (subst P c.in-Pair.is header) stands

pub returns-in-Scaled-clause-judged : goal.returns-in-Scaled-clause-judged
returns-in-Scaled-clause-judged g c = λ texts text read header stands.
    let P : Group → Type 0 = λ k. IsHeader texts text c.args.mine.predecessors.blocks k in
    c.judge_by-in-Scaled.ensures.judged texts text read
    (record { block_is = refl; counts_is = refl; proves = c.greatest_set_is_best_pit-2.ensures })
    (subst P c.in-Scaled.is header) stands
