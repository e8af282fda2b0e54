use Rattle.slope.proofs.KeyFinding.{absent}
use Rattle.slope.proofs.place_search.told.Goals as goal

pub returns-then-is_above_to : goal.returns-then-is_above_to
returns-then-is_above_to c = (
  c.requires.inside,
  absent c.args.keys.now c.args.key c.args.at c.requires.rising c.requires.inside
      (c.is_below_from.ensures c.if-is_below_from.true) (c.is_above_to.ensures c.if-is_above_to.true),
)
