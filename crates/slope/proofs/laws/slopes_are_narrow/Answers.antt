use Rattle.slope.proofs.Narrow.{above_most, slopes_narrow}
use Rattle.slope.proofs.laws.slopes_are_narrow.Goals as goal

pub returns-clause-each : goal.returns-clause-each
returns-clause-each c = λ m up selection rests s b. above_most m (λ k. c.args.pattern.now) up selection rests s b

pub returns-clause-narrow : goal.returns-clause-narrow
returns-clause-narrow c = λ m up selection rests s. slopes_narrow m (λ b. c.args.pattern.now) up selection rests
    (λ b. c.offsets.ensures.all.few) s
