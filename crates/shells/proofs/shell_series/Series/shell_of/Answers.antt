use Rattle.shells.proofs.Shells.{shell_of_series}
use Rattle.shells.proofs.shell_series.Series.shell_of.Goals as goal

pub returns-clause-shell : goal.returns-clause-shell
returns-clause-shell c = rw c.shell.ensures
    (shell_of_series c.args.self.now c.args.b c.factors-factors.ensures.series c.requires)
