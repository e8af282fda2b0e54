use Rattle.slope.proofs.Reduction.{closed_by_either}
use Rattle.slope.proofs.Alike.{own_upward}
use Rattle.slope.proofs.laws.reduced_region_pairs_close.Goals as goal
use Rattle.slope.specs.Slopes.{own_offsets}

pub returns : goal.returns
returns c = λ listed m up rests e upward s. closed_by_either m (own_offsets listed m) up rests
    (own_upward listed m upward) s e
