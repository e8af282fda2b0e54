use Rattle.std.proofs.Common.{◌∙◌, sym, rules}
use Rattle.periods_file.proofs.ReadRows.{not-falling, still-falling, last-falling, none-falling}
use Rattle.periods_file.proofs.arrays.is_falling.Goals as goal

pub returns-then-second-first : goal.returns-then-second-first
returns-then-second-first c = sym
    (c.loop-first.invariant ∙ not-falling _ _ _ _ c.in-Some.ensures.cases.0 c.in-Some-first.ensures.value
    c.if-second-first.true)

pub loop-first-preserved-else-second-first : goal.loop-first-preserved-else-second-first
loop-first-preserved-else-second-first c = c.loop-first.invariant
    ∙ still-falling _ _ _ _ c.in-Some.ensures.cases.0 c.in-Some-first.ensures.value c.if-second-first.false

pub loop-first-preserved : goal.loop-first-preserved
loop-first-preserved c = c.loop-first.invariant
    ∙ last-falling _ _ _ c.in-Some.ensures.cases.0 (search (rules, c.first.ensures.value, c.in_default-first.is))

pub returns : goal.returns
returns c = sym (c.loop-first.invariant ∙ none-falling _ (search (rules, c.in_default.ensures)))
