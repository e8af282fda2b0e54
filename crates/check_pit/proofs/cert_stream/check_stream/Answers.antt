use Rattle.std.proofs.Common.{ℕ, List, ◌++◌, subst}
use Rattle.closure_net.specs.Network.{NetView}
use Rattle.check_pit.specs.StreamChecks.{ReadsOn, BodyFails}
use Rattle.check_pit.proofs.cert_stream.check_stream.Goals as goal

pub returns-in-Err-clause-checked : goal.returns-in-Err-clause-checked
returns-in-Err-clause-checked g c = λ none fresh.
    let before = c.args.stream.now.lines in
    let later = c.check_held.new.stream.lines in
    let P : NetView → Type 0 = λ net. (x : List ℕ) × ReadsOn g.R.Read.remaining before later x
    × BodyFails (g.R.Read.remaining later.from) later.taken g.G.OrderedGroup.counts net (before.held ++ x)
    c.in-Err.fault in
    subst P c.graph.ensures (subst P c.listed.ensures (c.in-Err.ensures.checked none fresh))
