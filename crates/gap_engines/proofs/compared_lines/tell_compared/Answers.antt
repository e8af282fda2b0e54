use Rattle.std.proofs.Common.{ℕ, List, subst}
use Rattle.std.specs.Io.KnownBytes.{Appends}
use Rattle.schedule_value.specs.Judging.{judged_view}
use Rattle.gap_engines.proofs.GapsTold.{at_fault, compared_written}
use Rattle.gap_engines.proofs.compared_lines.tell_compared.Goals as goal

pub returns-in-Err-clause-answer : goal.returns-in-Err-clause-answer
returns-in-Err-clause-answer g c = λ texts p u o s h. at_fault texts p u o s (g.W.Write.contents c.args.out.now)
    c.in-Err.fault

pub returns-then-is_written-clause-answer : goal.returns-then-is_written-clause-answer
returns-then-is_written-clause-answer g c = λ texts p u o s h.
    let P : List ℕ → Type 0 = λ xs. Appends (g.W.Write.contents c.args.out.now)
    (g.W.Write.contents c.is_written.new.out) xs in
    compared_written texts p u o s (g.W.Write.contents c.args.out.now) (g.W.Write.contents c.is_written.new.out)
    (judged_view c.args.compared.judged) c.args.compared.told c.verdict_told.result c.verdict_told.ensures h
    (subst P c.in-Ok.ensures.text (c.is_written.ensures.text c.if-is_written.true))
