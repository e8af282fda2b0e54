use Rattle.std.proofs.Common.{◌≡◌, ◌∙◌, ◌*◌, ℕ, List, None, length, sym, ap, ap₂, subst, arith}
use Rattle.ordered_group.specs.declared.groups.Group.TheVariants as group
use Rattle.prec_file.specs.Rests.{RestsView}
use Rattle.check_pit.specs.CertStreams.{IsReadFor}
use Rattle.mine_inputs.specs.Prelude.{IsMineRead, MineTexts, ways_of}
use Rattle.mine_inputs.proofs.MineDevices.{under}
use Rattle.periods_file.specs.Periods.{periods_view}
use Rattle.check_engines.specs.Prelude.{factor_in}
use Rattle.schedule_value.specs.Judging.{judged_view}
use Rattle.schedule_engines.specs.Prelude.{IsPlanRead}
use Rattle.gap_engines.specs.Prelude.{IsCompared}
use Rattle.bound_engines.proofs.Bounded.{told_whole}
use Rattle.gap_engines.proofs.ComparedPart.{beside_of}
use Rattle.gap_engines.proofs.GapsTold.{compared, same_fault}
use Rattle.gap_engines.proofs.compared_judge.compared_from.Goals as goal

pub bound_after-requires-clause-header : goal.bound_after-requires-clause-header
bound_after-requires-clause-header g c =
    let x = c.in-Ok-figured_of.figured in
    let is = c.in-Ok-figured_of.ensures.is in
    let periods : length c.as_slice-count.result.now ≡ length c.args.read.periods.weights.items = ap length
    c.as_slice-count.ensures.value in
    let nodes : length c.as_slice-count.result.now * c.len.result ≡ length x.figures.weights * x.predecessors.blocks =
    ap₂ (λ (k m : ℕ). k * m) (periods ∙ sym (ap length (is.figures.each 0 (omega arith)).weights))
    (c.len.ensures.is ∙ sym (ap (λ (r : RestsView). r.blocks) is.same_pairs)) in
    subst (λ (k : ℕ). IsReadFor k group.Worth c.factor_of_nodes.new.stream.header c.factor_of_nodes.new.stream.fault)
    nodes c.in-Ok.ensures.header

pub returns-in-Ok-bound_after-clause-told : goal.returns-in-Ok-bound_after-clause-told
returns-in-Ok-bound_after-clause-told g c =
    let w = c.args.mine.worths in
    let r = c.args.mine.predecessors in
    let read = c.args.read in
    let factor = c.in-Ok.factor in
    let x = c.in-Ok-figured_of.figured in
    let v = judged_view c.in-Ok-judged_by.judged in
    let t = c.in-Ok-bound_after.told in
    under (g.C.Read.remaining c.args.stream.now.lines.from) (λ text. factor ≡ factor_in text)
    (λ text. (texts : MineTexts) (p u s : List ℕ) → IsMineRead texts (factor_in text) w r
    → IsPlanRead r.blocks (ways_of texts) read p u s → IsCompared texts p u None s v t)
    c.in-Ok.ensures.factor
    (λ text same texts p u s mine plan.
    let here = subst (λ (k : ℕ). IsMineRead texts k w r) (sym same) mine in
    compared texts p u s r.blocks (periods_view read.periods) read.waits v
    (c.in-Ok-judged_by.ensures.told texts p u s here plan) None t
    (told_whole texts p u w factor r (beside_of read) here plan.0 plan.1 t
    (c.in-Ok-bound_after.ensures.told _ _ _ _ _ _ c.in-Ok-figured_of.ensures.is)))

pub returns-clause-kept : goal.returns-clause-kept
returns-clause-kept g c = λ other. c.in-Err-bound_after.ensures.kept
    (λ is. other (same_fault c.in-Err-bound_after.fault _ is)) ∙ c.in-Ok.ensures.kept (λ e. cc)
