use Rattle.std.proofs.Common.{◌∙◌, sym, rules}
use Rattle.settings_file.proofs.ReadArrays.{not-ascending, still-ascending, last-ascending, none-ascending}
use Rattle.settings_file.proofs.arrays.is_ascending.Goals as goal

pub returns-then-second-first : goal.returns-then-second-first
returns-then-second-first c = sym
    (c.loop-first.invariant ∙ not-ascending _ _ _ _ c.in-Some.ensures.cases.0 c.in-Some-first.ensures.value
    c.if-second-first.true)

pub loop-first-preserved-else-second-first : goal.loop-first-preserved-else-second-first
loop-first-preserved-else-second-first c = c.loop-first.invariant
    ∙ still-ascending _ _ _ _ c.in-Some.ensures.cases.0 c.in-Some-first.ensures.value c.if-second-first.false

pub loop-first-preserved : goal.loop-first-preserved
loop-first-preserved c = c.loop-first.invariant
    ∙ last-ascending _ _ _ c.in-Some.ensures.cases.0 (search (rules, c.first.ensures.value, c.in_default-first.is))

pub returns : goal.returns
returns c = sym (c.loop-first.invariant ∙ none-ascending _ (search (rules, c.in_default.ensures)))
