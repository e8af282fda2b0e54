use Rattle.fixed_worth.proofs.Common.{◌∙◌, sym}
use Rattle.design_value.proofs.BlockPairs.{reached_pair, reached_nothing}
use Rattle.design_value.proofs.rows.add_way.Goals as goal

pub returns-in_ok-push-in-Some : goal.returns-in_ok-push-in-Some
returns-in_ok-push-in-Some g c = λ a. rw (c.in_ok-push-in-Some.ensures.items)
    (reached_pair (g.P.Precedence.shown c.args.held.now) c.args.b c.args.way c.in-Some.p c.args.pairs.now.items
    (sym c.way.ensures ∙ c.in-Some.is) a)

pub returns-in-None : goal.returns-in-None
returns-in-None g c = λ a. reached_nothing (g.P.Precedence.shown c.args.held.now) c.args.b c.args.way
    c.args.pairs.now.items (sym c.way.ensures ∙ c.in-None.is) a
