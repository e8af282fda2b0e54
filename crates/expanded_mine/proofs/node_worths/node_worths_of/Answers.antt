use Rattle.fixed_worth.proofs.Common.{rules, ◌-ℤ◌, ◌/◌, ◌%◌, length, ◌∙◌, SFits, w128, to_z-of_z}
use Rattle.expanded_mine.specs.Prelude.{is_early, node_worth, withheld}
use Rattle.expanded_mine.proofs.WorthLists.{worth_pushed}
use Rattle.expanded_mine.proofs.node_worths.node_worths_of.Goals as goal

pub loop-i-preserved : goal.loop-i-preserved
loop-i-preserved c =
    let f = c.args.figures.now in
    let w = c.args.waits.now in
    let i = c.loop-i.i in
    let fits : SFits w128 c.in-Some.worth = search rules in
    worth_pushed (λ j. node_worth f c.args.others.now c.args.prices.now (j % length f.worths) (j / length f.worths) -ℤ
    withheld (is_early (length f.worths) w.lag w.pairs.pairs j)) c.loop-i.worths.items
    c.push_worth.new.worths.items _ i c.in_ok-push_worth-in-Some.ensures c.loop-i.invariant.0 c.loop-i.invariant.1
    (to_z-of_z w128 c.in-Some.worth fits ∙ c.in-Some.ensures)
