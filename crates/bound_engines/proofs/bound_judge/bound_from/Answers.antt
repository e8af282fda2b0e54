use Rattle.fixed_worth.proofs.Common.{◌≡◌, ℕ, ◌*◌, List, None, IfOk, IfOk-weaker, length, sym, ap, ap₂, subst, ◌∙◌}
use Rattle.fixed_worth.proofs.Common.{arith}
use Rattle.ordered_group.specs.declared.groups.Group.TheVariants as group
use Rattle.prec_file.specs.Rests.{RestsView}
use Rattle.check_pit.specs.CertStreams.{IsReadFor}
use Rattle.mine_inputs.specs.Prelude.{IsMineRead, MineTexts, ways_of}
use Rattle.mine_inputs.proofs.MineDevices.{under}
use Rattle.periods_file.specs.Periods.{periods_view}
use Rattle.check_engines.specs.Prelude.{factor_in}
use Rattle.schedule_engines.specs.Prelude.{ReadsPeriodsBy, ReadsWayUses}
use Rattle.bound_engines.specs.Bounded.{IsToldIn, IsToldOf}
use Rattle.bound_engines.proofs.Bounded.{told_of, told_whole}
use Rattle.bound_engines.proofs.bound_judge.bound_from.Goals as goal

pub bound_after-requires-clause-header : goal.bound_after-requires-clause-header
bound_after-requires-clause-header g c =
    let x = c.in-Ok-figured_of.figured in
    let is = c.in-Ok-figured_of.ensures.is in
    let periods : length c.as_slice-periods.result.now ≡ length c.args.beside.periods.weights.items = ap length
    c.as_slice-periods.ensures.value in
    let nodes : length c.as_slice-periods.result.now * c.len.result ≡ length x.figures.weights * x.predecessors.blocks =
    ap₂ (λ (k m : ℕ). k * m) (periods ∙ sym (ap length (is.figures.each 0 (omega arith)).weights))
    (c.len.ensures.is ∙ sym (ap (λ (r : RestsView). r.blocks) is.same_pairs)) in
    subst (λ (k : ℕ). IsReadFor k group.Worth c.factor_of_nodes.new.stream.header c.factor_of_nodes.new.stream.fault)
    nodes c.in-Ok.ensures.header

pub returns-clause-told : goal.returns-clause-told
returns-clause-told g c =
    let w = c.args.mine.worths in
    let r = c.args.mine.predecessors in
    let b = c.args.beside in
    let said = periods_view b.periods in
    let factor = c.in-Ok.factor in
    let x = c.in-Ok-figured_of.figured in
    under (g.C.Read.remaining c.args.stream.now.lines.from) (λ text. factor ≡ factor_in text)
    (λ text. (texts : MineTexts) (p u : List ℕ) → IsMineRead texts (factor_in text) w r
    → ReadsPeriodsBy (ways_of texts) p said → ReadsWayUses r.blocks (ways_of texts) said u b.uses.items b.waits
    → IfOk c.bound_after.result (IsToldOf texts p u None))
    c.in-Ok.ensures.factor
    (λ text same texts p u read pr ur.
    let here = subst (λ (k : ℕ). IsMineRead texts k w r) (sym same) read in
    IfOk-weaker c.bound_after.result (IsToldIn x) (IsToldOf texts p u None)
    (λ t h. told_of texts p u None r.blocks said b.waits t
    (told_whole texts p u w factor r b here pr ur t (h _ _ _ _ _ _ c.in-Ok-figured_of.ensures.is)))
    c.bound_after.ensures.told)
