use Rattle.std.proofs.Common.{List, ℕ, subst}
use Rattle.std.specs.Io.KnownBytes.{Appends}
use Rattle.gap_engines.proofs.GapsTold.{no_pit_written}
use Rattle.gap_engines.proofs.compared_lines.tell_no_pit.Goals as goal

pub returns-then-is_written-clause-answer : goal.returns-then-is_written-clause-answer
returns-then-is_written-clause-answer g c = λ texts p u o s given.
    let P : List ℕ → Type 0 = λ xs. Appends (g.W.Write.contents c.args.out.now)
    (g.W.Write.contents c.is_written.new.out) xs in
    no_pit_written texts p u o s (g.W.Write.contents c.args.out.now) (g.W.Write.contents c.is_written.new.out) given
    c.args.fault (subst P c.in-Ok.ensures (c.is_written.ensures.text c.if-is_written.true))
