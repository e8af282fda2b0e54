use Rattle.std.proofs.Common.{ℕ, List, ◌++◌, ap, subst}
use Rattle.check_pit.specs.Prelude.{LineView, ReadsOn, BodyFails}
use Rattle.check_pit.proofs.cert_stream.check_held.Goals as goal

pub returns-in-Err-clause-checked : goal.returns-in-Err-clause-checked
returns-in-Err-clause-checked g c = λ none fresh.
    let later = c.check_lines.new.lines in
    subst (λ (s : LineView g.row.R.Denot). (x : List ℕ) × ReadsOn g.R.Read.remaining s later x
    × BodyFails (g.R.Read.remaining later.from) later.taken g.G.OrderedGroup.counts c.args.net
    (s.held ++ x) c.in-Err.fault)
    (ap (λ v. v.lines) c.stream.view_is) c.in-Err.ensures.checked
