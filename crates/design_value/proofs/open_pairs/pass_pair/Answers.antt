use Rattle.std.proofs.Common.{◌∙◌, arith}
use Rattle.design_value.proofs.Leading.{stays, opens_told, opens_untold}
use Rattle.design_value.proofs.open_pairs.pass_pair.Goals as goal

pub returns-then-not-leads-clause-all : goal.returns-then-not-leads-clause-all
returns-then-not-leads-clause-all c = λ design ps is before. stays design ps c.args.pair _ _
    (is ∙ c.if-not-leads.true) before

pub returns-then-len-ge-MOST_TOLD-clause-all : goal.returns-then-len-ge-MOST_TOLD-clause-all
returns-then-len-ge-MOST_TOLD-clause-all c = λ design ps is before. opens_untold design ps c.args.pair _ _
    (is ∙ c.if-not-leads.false) (omega arith) before

pub returns-clause-all : goal.returns-clause-all
returns-clause-all c = λ design ps is before. rw (c.in_ok-push.ensures.items)
    (opens_told design ps c.args.pair _ _ (is ∙ c.if-not-leads.false) (omega arith) before)
