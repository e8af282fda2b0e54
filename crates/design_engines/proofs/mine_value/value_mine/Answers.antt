use Rattle.std.proofs.lemmas.Result.{err_from_is_err_and}
use Rattle.design_engines.specs.Told.{design_view}
use Rattle.design_engines.proofs.Answered.{lines_failed}
use Rattle.design_engines.proofs.mine_value.value_mine.Goals as goal

pub returns-in_err-write_design-clause-answer : goal.returns-in_err-write_design-clause-answer
returns-in_err-write_design-clause-answer g c = λ texts design read drawn.
    let v = c.in_ok-valued.valued in
    let p = err_from_is_err_and c.from_residual-in_err-write_design.result
    c.from_residual-in_err-write_design.ensures.1 in
    rw (p.1, p.2)
    (lines_failed texts design (design_view v) (g.W.Write.contents c.args.out.now)
    (g.W.Write.contents c.write_design.new.out) c.in_err-write_design.field-0.0
    (c.in_ok-valued.ensures.is texts design read drawn) c.in_err-write_design.ensures.fault)

pub returns-clause-answer : goal.returns-clause-answer
returns-clause-answer g c = λ texts design read drawn.
    let v = c.in_ok-valued.valued in (
      design_view v,
      c.in_ok-valued.ensures.is texts design read drawn,
      c.verdict_where.ensures,
      c.in_ok-write_design.ensures.lines,
    )
