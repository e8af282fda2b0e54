use Rattle.fixed_worth.proofs.Common.{Bool, List, sym, subst, err_from_is_err_and}
use Rattle.prec_file.specs.Rests.{RestsView}
use Rattle.check_engines.specs.Prelude.{Fails, StandsAfter, IsHeader}
use Rattle.mine_inputs.specs.ReadMines.{AreRead}
use Rattle.mine_inputs.proofs.MinesRead.{read_as}
use Rattle.design_engines.specs.Prelude.{IsBeside, ComparisonFails, ReadsDesign, design_view}
use Rattle.design_engines.specs.declared.value_fault.ValueFault.TheVariants as value
use Rattle.design_engines.proofs.BesideStreams.{unvalued, read_beside}
use Rattle.design_engines.proofs.beside_judge.beside_stream.Goals as goal

pub returns-in_err-mine-clause-judged : goal.returns-in_err-mine-clause-judged
returns-in_err-mine-clause-judged g c =
    let case = c.args.case in
    let p = err_from_is_err_and c.from_residual.result c.from_residual.ensures.1 in
    rw (p.1, p.2)
    (read_beside (g.C.Read.remaining c.args.stream.now.lines.from) case.mine.worths case.mine.predecessors
    case.marks.items (λ texts cert. Fails texts cert c.in_err-mine.field-0.0)
    (λ texts d cert. ComparisonFails texts d cert (value.Engine c.in_err-mine.field-0.0))
    c.in_err-mine.ensures.priced (λ texts d cert drawn h. h))

pub returns-in_err-valued-clause-judged : goal.returns-in_err-valued-clause-judged
returns-in_err-valued-clause-judged g c =
    let remaining = g.C.Read.remaining in
    let case = c.args.case in
    let mine = c.in_ok-mine.mine in
    let p = err_from_is_err_and c.from_residual-in_err-valued.result c.from_residual-in_err-valued.ensures.1 in
    let e = c.in_err-valued.field-0.0 in
    rw (p.1, p.2)
    (read_beside (remaining c.args.stream.now.lines.from) case.mine.worths case.mine.predecessors case.marks.items
    (λ texts cert. AreRead texts mine.nanos.items mine.predecessors
    × IsHeader texts cert mine.predecessors.blocks mine.group
    × StandsAfter remaining cert c.price_mine.new.stream.lines)
    (λ texts d cert. ComparisonFails texts d cert e) c.in_ok-mine.ensures.priced
    (λ texts d cert drawn h.
    let seen = subst (λ (r : RestsView). ReadsDesign r.blocks d case.marks.items) (sym c.in_ok-mine.ensures.blocks)
    drawn in
    unvalued texts d cert e (c.in_err-valued.ensures.is texts d
    (read_as texts _ _ mine.predecessors c.as_slice.ensures.value h.0)
    (subst (λ (ms : List Bool). ReadsDesign mine.predecessors.blocks d ms) (sym c.as_slice-2.ensures.value) seen))))

pub returns-clause-judged : goal.returns-clause-judged
returns-clause-judged g c =
    let remaining = g.C.Read.remaining in
    let case = c.args.case in
    let mine = c.in_ok-mine.mine in
    let valued = c.in_ok-valued.valued in
    read_beside (remaining c.args.stream.now.lines.from) case.mine.worths case.mine.predecessors case.marks.items
    (λ texts cert. AreRead texts mine.nanos.items mine.predecessors
    × IsHeader texts cert mine.predecessors.blocks mine.group
    × StandsAfter remaining cert c.price_mine.new.stream.lines)
    (λ texts d cert. IsBeside texts d cert (design_view valued) c.in_ok-judgement.judgement) c.in_ok-mine.ensures.priced
    (λ texts d cert drawn h.
    let seen = subst (λ (r : RestsView). ReadsDesign r.blocks d case.marks.items) (sym c.in_ok-mine.ensures.blocks)
    drawn in (
      c.in_ok-valued.ensures.is texts d (read_as texts _ _ mine.predecessors c.as_slice.ensures.value h.0)
          (subst (λ (ms : List Bool). ReadsDesign mine.predecessors.blocks d ms) (sym c.as_slice-2.ensures.value) seen),
      c.in_ok-judgement.ensures.judged texts cert h.0 h.1 h.2,
    ))
