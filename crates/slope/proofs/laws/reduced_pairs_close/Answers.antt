use Rattle.slope.proofs.Reduction.{closed_by_either}
use Rattle.slope.proofs.laws.reduced_pairs_close.Goals as goal

pub returns : goal.returns
returns c = λ m up rests e s. closed_by_either m (λ b. c.args.pattern.now) up rests
    (λ b. c.offsets.ensures.all.upward) s e
