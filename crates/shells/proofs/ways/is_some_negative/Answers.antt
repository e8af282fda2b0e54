use Rattle.fixed_worth.proofs.Common.{◌≤ℤ◌, pos, List, All, All-map, subst, take_all}
use Rattle.std.proofs.lemmas.List.Elements.{All-more}
use Rattle.shells.specs.Prices.{WayView, number_at}
use Rattle.shells.proofs.ways.is_some_negative.Goals as goal

pub loop-i-preserved : goal.loop-i-preserved
loop-i-preserved c =
    let P = λ (way : WayView). pos 0 ≤ℤ number_at way.revenue c.args.b in
    All-more P c.args.ways.now c.loop-i.i c.index-ways-i.result c.loop-i-test.true c.loop-i.invariant
    (subst P c.index-ways-i.is c.if-is_negative.ensures)

pub returns : goal.returns
returns c =
    let P = λ (way : WayView). pos 0 ≤ℤ number_at way.revenue c.args.b in
    All-map (λ r. pos 0 ≤ℤ r) (λ (way : WayView). number_at way.revenue c.args.b) c.args.ways.now
    (subst (λ (ws : List WayView). All P ws) (take_all c.loop-i.i c.args.ways.now c.loop-i-test.false)
    c.loop-i.invariant)
