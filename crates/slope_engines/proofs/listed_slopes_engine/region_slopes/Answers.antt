use Rattle.std.proofs.lemmas.Result.{err_from_is_err_and}
use Rattle.mine_inputs.specs.SlopedTexts.{columns_for}
use Rattle.slope_engines.proofs.SlopeAnswers.{region_blocks, regions_refused, regions_written, regions_cut}
use Rattle.slope_engines.proofs.listed_slopes_engine.region_slopes.Goals as goal

pub returns-in_err-model-clause-answer : goal.returns-in_err-model-clause-answer
returns-in_err-model-clause-answer g c =
    let p = err_from_is_err_and c.from_residual.result c.from_residual.ensures.1 in
    rw (p.1, p.2) (region_blocks (g.B.Read.remaining c.args.blocks.now) _ (columns_for c.args.region) c.args.asked.up
    c.args.asked.selection (g.W.Write.contents c.args.out.now) c.in_err-model.field-0.0 c.in_err-model.ensures.read)

pub returns-in_err-predecessors-clause-answer : goal.returns-in_err-predecessors-clause-answer
returns-in_err-predecessors-clause-answer g c =
    let p = err_from_is_err_and c.from_residual-in_err-predecessors.result
    c.from_residual-in_err-predecessors.ensures.1 in
    rw (p.1, p.2) (regions_refused (g.B.Read.remaining c.args.blocks.now) _ (columns_for c.args.region)
    c.args.asked.up c.args.asked.selection c.in_ok-model.model c.in_ok-model.ensures.read
    (g.W.Write.contents c.args.out.now) c.in_err-predecessors.field-0.0 c.in_err-predecessors.ensures.made)

pub returns-in_err-write_slopes-clause-answer : goal.returns-in_err-write_slopes-clause-answer
returns-in_err-write_slopes-clause-answer g c =
    let p = err_from_is_err_and c.from_residual-in_err-write_slopes.result
    c.from_residual-in_err-write_slopes.ensures.1 in
    rw (p.1, p.2) (regions_cut (g.B.Read.remaining c.args.blocks.now) _ (columns_for c.args.region) c.args.asked.up
    c.args.asked.selection c.in_ok-model.model c.in_ok-model.ensures.read (g.W.Write.contents c.args.out.now)
    (g.W.Write.contents c.write_slopes.new.out) c.in_ok-predecessors.predecessors c.in_err-write_slopes.field-0.0
    c.in_err-write_slopes.ensures.fault
    c.in_ok-predecessors.ensures.made c.in_err-write_slopes.ensures.prefix)

pub returns-clause-answer : goal.returns-clause-answer
returns-clause-answer g c =
    regions_written (g.B.Read.remaining c.args.blocks.now) _ (columns_for c.args.region) c.args.asked.up
    c.args.asked.selection c.in_ok-model.model c.in_ok-model.ensures.read (g.W.Write.contents c.args.out.now)
    (g.W.Write.contents c.write_slopes.new.out) c.in_ok-predecessors.predecessors
    c.in_ok-predecessors.ensures.made c.in_ok-write_slopes.ensures.sent
