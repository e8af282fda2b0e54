use Rattle.std.proofs.lemmas.Result.{err_from_is_err_and}
use Rattle.slope_engines.proofs.SlopeAnswers.{pattern_blocks, pattern_refused, pairs_refused, pairs_written, pairs_cut}
use Rattle.slope_engines.proofs.listed_slopes_engine.pattern_slopes.Goals as goal

pub returns-in_err-model-clause-answer : goal.returns-in_err-model-clause-answer
returns-in_err-model-clause-answer g c =
    let p = err_from_is_err_and c.from_residual.result c.from_residual.ensures.1 in
    rw (p.1, p.2) (pattern_blocks (g.B.Read.remaining c.args.blocks.now) c.args.offsets.now c.args.asked.up
    c.args.asked.selection (g.W.Write.contents c.args.out.now) c.in_err-model.field-0.0 c.in_err-model.ensures.read)

pub returns-in_err-pattern-clause-answer : goal.returns-in_err-pattern-clause-answer
returns-in_err-pattern-clause-answer g c =
    let p = err_from_is_err_and c.from_residual-in_err-pattern.result c.from_residual-in_err-pattern.ensures.1 in
    rw (p.1, p.2) (pattern_refused (g.B.Read.remaining c.args.blocks.now) c.args.offsets.now c.args.asked.up
    c.args.asked.selection c.in_ok-model.model c.in_ok-model.ensures.read (g.W.Write.contents c.args.out.now)
    c.in_err-pattern.field-0.0 c.in_err-pattern.ensures.made)

pub returns-in_err-predecessors-clause-answer : goal.returns-in_err-predecessors-clause-answer
returns-in_err-predecessors-clause-answer g c =
    let p = err_from_is_err_and c.from_residual-in_err-predecessors.result
    c.from_residual-in_err-predecessors.ensures.1 in
    rw (p.1, p.2) (pairs_refused (g.B.Read.remaining c.args.blocks.now) c.args.offsets.now c.args.asked.up
    c.args.asked.selection c.in_ok-model.model c.in_ok-model.ensures.read c.in_ok-pattern.pattern
    c.in_ok-pattern.ensures.made (g.W.Write.contents c.args.out.now) c.in_err-predecessors.field-0.0
    c.in_err-predecessors.ensures.made)

pub returns-in_err-write_slopes-clause-answer : goal.returns-in_err-write_slopes-clause-answer
returns-in_err-write_slopes-clause-answer g c =
    let p = err_from_is_err_and c.from_residual-in_err-write_slopes.result
    c.from_residual-in_err-write_slopes.ensures.1 in
    rw (p.1, p.2) (pairs_cut (g.B.Read.remaining c.args.blocks.now) c.args.offsets.now c.args.asked.up
    c.args.asked.selection c.in_ok-model.model c.in_ok-model.ensures.read c.in_ok-pattern.pattern
    c.in_ok-pattern.ensures.made (g.W.Write.contents c.args.out.now) (g.W.Write.contents c.write_slopes.new.out)
    c.in_ok-predecessors.predecessors c.in_err-write_slopes.field-0.0 c.in_err-write_slopes.ensures.fault
    c.in_ok-predecessors.ensures.made c.in_err-write_slopes.ensures.prefix)

pub returns-clause-answer : goal.returns-clause-answer
returns-clause-answer g c =
    pairs_written (g.B.Read.remaining c.args.blocks.now) c.args.offsets.now c.args.asked.up c.args.asked.selection
    c.in_ok-model.model c.in_ok-model.ensures.read c.in_ok-pattern.pattern c.in_ok-pattern.ensures.made
    (g.W.Write.contents c.args.out.now) (g.W.Write.contents c.write_slopes.new.out)
    c.in_ok-predecessors.predecessors c.in_ok-predecessors.ensures.made c.in_ok-write_slopes.ensures.sent
