use Rattle.std.proofs.Common.{refl, sym, subst, MatchResult}
use Rattle.ordered_group.specs.declared.groups.Group.{Group}
use Rattle.replay_engines.specs.Replays.{ComesOf, NothingComes}
use Rattle.replay_engines.proofs.replayed_mine.outcome_of.Goals as goal

pub returns-in-Worth-clause-comes : goal.returns-in-Worth-clause-comes
returns-in-Worth-clause-comes c = λ texts read.
    let P : Group → Type 0 = λ k. MatchResult c.outcome_by.result (ComesOf texts k c.args.events.now)
    (NothingComes texts k) in
    subst P (sym c.in-Worth.is)
    (c.outcome_by.ensures.comes texts read
    (record { block_is = refl; counts_is = refl; proves = c.greatest_set_is_richest_pit.ensures }))

pub returns-in-Pair-clause-comes : goal.returns-in-Pair-clause-comes
returns-in-Pair-clause-comes c = λ texts read.
    let P : Group → Type 0 = λ k. MatchResult c.outcome_by-in-Pair.result (ComesOf texts k c.args.events.now)
    (NothingComes texts k) in
    subst P (sym c.in-Pair.is)
    (c.outcome_by-in-Pair.ensures.comes texts read
    (record { block_is = refl; counts_is = refl; proves = c.greatest_set_is_best_pit.ensures }))

pub returns-in-Scaled-clause-comes : goal.returns-in-Scaled-clause-comes
returns-in-Scaled-clause-comes c = λ texts read.
    let P : Group → Type 0 = λ k. MatchResult c.outcome_by-in-Scaled.result (ComesOf texts k c.args.events.now)
    (NothingComes texts k) in
    subst P (sym c.in-Scaled.is)
    (c.outcome_by-in-Scaled.ensures.comes texts read
    (record { block_is = refl; counts_is = refl; proves = c.greatest_set_is_best_pit-2.ensures }))
