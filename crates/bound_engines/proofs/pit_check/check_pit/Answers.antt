use Rattle.std.proofs.Common.{refl, subst}
use Rattle.ordered_group.specs.declared.groups.Group.{Group}
use Rattle.check_engines.specs.Readings.{IsHeader}
use Rattle.bound_engines.proofs.pit_check.check_pit.Goals as goal

pub returns-in-Worth-clause-told : goal.returns-in-Worth-clause-told
returns-in-Worth-clause-told g c = λ texts text read header stands.
    let P : Group → Type 0 = λ k. IsHeader texts text c.args.pairs.now.blocks k in
    c.pit_of_group.ensures.told texts text read
    (record { block_is = refl; counts_is = refl; proves = c.greatest_set_is_richest_pit.ensures })
    (subst P c.in-Worth.is header) stands

pub returns-in-Pair-clause-told : goal.returns-in-Pair-clause-told
returns-in-Pair-clause-told g c = λ texts text read header stands.
    let P : Group → Type 0 = λ k. IsHeader texts text c.args.pairs.now.blocks k in
    c.pit_of_group-in-Pair.ensures.told texts text read
    (record { block_is = refl; counts_is = refl; proves = c.greatest_set_is_best_pit.ensures })
    (subst P c.in-Pair.is header) stands

pub returns-in-Scaled-clause-told : goal.returns-in-Scaled-clause-told
returns-in-Scaled-clause-told g c = λ texts text read header stands.
    let P : Group → Type 0 = λ k. IsHeader texts text c.args.pairs.now.blocks k in
    c.pit_of_group-in-Scaled.ensures.told texts text read
    (record { block_is = refl; counts_is = refl; proves = c.greatest_set_is_best_pit-2.ensures })
    (subst P c.in-Scaled.is header) stands
