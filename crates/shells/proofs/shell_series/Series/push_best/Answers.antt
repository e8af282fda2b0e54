use Rattle.std.proofs.Common.{sym, subst}
use Rattle.shells.specs.Series.{IsAboveAll}
use Rattle.shells.proofs.shell_series.Series.push_best.Goals as goal

pub put-requires-clause-above : goal.put-requires-clause-above
put-requires-clause-above c = subst (IsAboveAll c.args.self.now.factors) (sym c.get.ensures.value) c.requires.above
