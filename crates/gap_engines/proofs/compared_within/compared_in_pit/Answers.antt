use Rattle.std.proofs.Common.{rules, ◌≡◌, sym, subst}
use Rattle.prec_file.specs.Rests.{RestsView}
use Rattle.mine_inputs.specs.declared.worths.Worths.{Worths}
use Rattle.mine_inputs.specs.Prelude.{IsMineRead, ways_of}
use Rattle.periods_file.specs.Periods.{periods_view}
use Rattle.schedule_engines.specs.Prelude.{IsPlanRead, IsTreatedFor}
use Rattle.schedule_value.specs.Judging.{judged_view}
use Rattle.gap_engines.proofs.ComparedPart.{compared_part, nothing_compared}
use Rattle.gap_engines.proofs.GapsTold.{same_fault}
use Rattle.gap_engines.proofs.compared_within.compared_in_pit.Goals as goal

pub returns-in-Ok-replace_with-clause-told : goal.returns-in-Ok-replace_with-clause-told
returns-in-Ok-replace_with-clause-told g c =
    let remaining = g.C.Read.remaining in
    let mine = c.args.mine in
    let rests = mine.predecessors in
    let read = c.args.read in
    let x = c.in-Ok-Part.part in
    let p = rw c.in-Ok-Part.field-0-is at c.in-Ok-Part.ensures.part in
    let v = judged_view c.in-Ok.judged in
    compared_part (remaining c.args.pit.now) (remaining c.args.nodes.now) mine.worths rests read x p.0 p.1
    c.in-Ok-replace_with.told c.in-Ok-replace_with.ensures.0 c.in-Ok-replace_with.ensures.1.0 v
    (λ texts q u s m plan.
    let F : Worths → Type 0 = λ w. IsMineRead texts x.factor w rests in
    let R : RestsView → Type 0 = λ r. IsMineRead texts x.factor x.worths r in
    let P : RestsView → Type 0 = λ r. IsPlanRead r.blocks (ways_of texts) read q u s in
    let T : RestsView → Type 0 = λ r. IsTreatedFor texts q u s r.blocks (periods_view read.periods) read.waits v in
    subst T p.2 (c.in-Ok.ensures.told texts q u s (subst R (sym p.2) (subst F (sym p.0) m)) (subst P (sym p.2) plan)))

pub returns-clause-told : goal.returns-clause-told
returns-clause-told g c =
    let remaining = g.C.Read.remaining in
    let mine = c.args.mine in
    nothing_compared (remaining c.args.pit.now) (remaining c.args.nodes.now) mine.worths mine.predecessors c.args.read

pub returns-clause-kept : goal.returns-clause-kept
returns-clause-kept g c = λ other.
    let same : g.C.CountedRead.failed c.parted_by.new.device ≡ g.C.CountedRead.failed c.args.pit.now = search rules in
    (same, c.in-Err-replace_with.ensures.1.1.1.0 (λ is. other (same_fault c.in-Err-replace_with.fault _ is)))
