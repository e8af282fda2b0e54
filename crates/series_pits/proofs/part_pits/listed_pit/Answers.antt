use Rattle.fixed_worth.proofs.Common.{Option, IfSome, subst}
use Rattle.ordered_group.specs.Block.{scaled_block}
use Rattle.series_pits.specs.declared.best_pits.BestPit.{BestPit}
use Rattle.series_pits.specs.Prelude.{IsBestOf, mine_among}
use Rattle.series_pits.proofs.part_pits.listed_pit.Goals as goal

pub returns : goal.returns
returns c =
    let net = c.in-Ok.net in
    let of = c.in-Ok.ensures in
    let best = subst (λ (o : Option BestPit). IfSome o (IsBestOf scaled_block net c.args.factor)) c.in-Some.is
    c.in_ok-best.ensures in
    record {
      less = of.less;
      part = of.part;
      best = best.is_best
          (mine_among of.less c.args.prices.now c.args.kept.now c.args.factor) of.of;
    }
