use Rattle.std.proofs.Common.{sym, subst}
use Rattle.prec_file.specs.Rests.{RestsView}
use Rattle.mine_inputs.specs.Prelude.{IsMineRead, ways_of}
use Rattle.periods_file.specs.Periods.{periods_view}
use Rattle.schedule_value.specs.Judging.{judged_view}
use Rattle.schedule_engines.specs.Prelude.{IsPlanRead, IsTreatedFor}
use Rattle.gap_engines.proofs.compared_within.judged_whole.Goals as goal

pub returns-in-Ok-judged_by-clause-told : goal.returns-in-Ok-judged_by-clause-told
returns-in-Ok-judged_by-clause-told c = λ texts p u s mine plan.
    let is = c.in-Ok.ensures.is in
    let x = c.args.part.now in
    let read = c.args.read.now in
    let M : RestsView → Type 0 = λ r. IsMineRead texts x.factor x.worths r in
    let P : RestsView → Type 0 = λ r. IsPlanRead r.blocks (ways_of texts) read p u s in
    let T : RestsView → Type 0 = λ r. IsTreatedFor texts p u s r.blocks (periods_view read.periods) read.waits
    (judged_view c.in-Ok-judged_by.judged) in
    subst T is (c.in-Ok-judged_by.ensures.told texts p u s (subst M (sym is) mine) (subst P (sym is) plan))
