use Rattle.slope_engines.proofs.slope_pairs.slopes_of.Goals as goal

pub returns-in-Ok-clause-narrow : goal.returns-in-Ok-clause-narrow
returns-in-Ok-clause-narrow c = c.slopes_are_narrow.ensures.narrow c.args.model.now c.args.up c.args.selection
    c.in-Ok.predecessors c.in-Ok.ensures
