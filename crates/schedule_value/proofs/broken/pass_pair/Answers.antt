use Rattle.std.proofs.Common.{◌∙◌, arith}
use Rattle.schedule_value.proofs.PairByPair.{stays, breaks_told, breaks_untold}
use Rattle.schedule_value.proofs.broken.pass_pair.Goals as goal

pub returns-then-not-is : goal.returns-then-not-is
returns-then-not-is c = λ lag schedule periods ps is before. stays lag schedule periods ps c.args.pair _ _
    (is ∙ c.if-not-is.true) before

pub returns-then-len-ge-MOST_TOLD : goal.returns-then-len-ge-MOST_TOLD
returns-then-len-ge-MOST_TOLD c = λ lag schedule periods ps is before. breaks_untold lag schedule periods ps
    c.args.pair _ _ (is ∙ c.if-not-is.false) (omega arith) before

pub returns : goal.returns
returns c = λ lag schedule periods ps is before. rw (c.in_ok-push.ensures.items)
    (breaks_told lag schedule periods ps c.args.pair _ _ (is ∙ c.if-not-is.false) (omega arith) before)
