use Rattle.bound_engines.proofs.PitsTold.{told_by_part}
use Rattle.bound_engines.proofs.certificates_judge.told_within.Goals as goal

pub returns-in-Ok-Part-clause-told : goal.returns-in-Ok-Part-clause-told
returns-in-Ok-Part-clause-told g c =
    let remaining = g.C.Read.remaining in
    let mine = c.args.mine in
    let beside = c.args.beside.now in
    let p = rw c.in-Ok-Part.field-0-is at c.in-Ok-Part.ensures.part in
    told_by_part (remaining c.args.pit.now) mine.worths mine.predecessors beside c.in-Ok-Part.part p.0 p.1
    (remaining c.args.nodes.now) c.replace_with.result c.replace_with.ensures.0 c.replace_with.ensures.1.0
