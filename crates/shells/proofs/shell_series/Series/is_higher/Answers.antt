use Rattle.shells.proofs.shell_series.Series.is_higher.Goals as goal

pub returns : goal.returns
returns c = rw (c.factors.ensures.is, c.get.ensures.value) at c.is_above_all.ensures
