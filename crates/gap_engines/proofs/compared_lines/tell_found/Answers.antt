use Rattle.std.proofs.Common.{subst}
use Rattle.gap_engines.specs.declared.compared_within.ComparedBy.{ComparedBy}
use Rattle.gap_engines.specs.Prelude.{IsComparedBy}
use Rattle.gap_engines.proofs.compared_lines.tell_found.Goals as goal

pub returns-in-Bound-clause-answer : goal.returns-in-Bound-clause-answer
returns-in-Bound-clause-answer g c = λ texts p u o s h.
    let P : ComparedBy → Type 0 = λ t. IsComparedBy texts p u o s t in
    c.tell_compared.ensures.answer texts p u o s (subst P c.in-Bound.is h)

pub returns-in-NoPit-clause-answer : goal.returns-in-NoPit-clause-answer
returns-in-NoPit-clause-answer g c = λ texts p u o s h.
    let P : ComparedBy → Type 0 = λ t. IsComparedBy texts p u o s t in
    c.tell_no_pit.ensures.answer texts p u o s (subst P c.in-NoPit.is h)
