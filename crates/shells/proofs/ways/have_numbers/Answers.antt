use Rattle.fixed_worth.proofs.Common.{List, All, rules, subst, take_all}
use Rattle.std.proofs.lemmas.List.Elements.{All-more}
use Rattle.shells.specs.Prices.{WayView, HasNumbers}
use Rattle.shells.proofs.ways.have_numbers.Goals as goal

pub loop-i-preserved : goal.loop-i-preserved
loop-i-preserved c =
    let way = c.index-ways-i.result in
    All-more (HasNumbers c.args.blocks) c.args.ways.now c.loop-i.i way c.loop-i-test.true c.loop-i.invariant
    (subst (HasNumbers c.args.blocks) c.index-ways-i.is (c.has_numbers.ensures.0 c.if-not-has_numbers.false))

pub returns : goal.returns
returns c = (
  λ t. subst (λ (ws : List WayView). All (HasNumbers c.args.blocks) ws)
      (take_all c.loop-i.i c.args.ways.now c.loop-i-test.false) c.loop-i.invariant,
  λ all. search rules,
)
