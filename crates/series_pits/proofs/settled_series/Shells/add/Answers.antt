use Rattle.std.proofs.Common.{ℕ, subst}
use Rattle.shells.specs.Series.{mine_at}
use Rattle.series_pits.specs.ShellTable.{IsRowOf}
use Rattle.series_pits.proofs.settled_series.Shells.add.Goals as goal

pub returns : goal.returns
returns c =
    let s = c.args.self.now.series in
    record {
      pairs = c.push_best.ensures.pairs;
      prices = c.push_best.ensures.prices;
      factors = c.push_best.ensures.factors;
      row = c.args.best.now.row;
      last = c.in_ok-push.ensures.items;
      at = c.requires.at;
      is = subst (λ (k : ℕ). IsRowOf (mine_at s.pairs s.prices k) c.args.best.now.row) c.requires.at
          c.requires.proved.row_is;
    }
