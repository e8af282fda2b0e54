use Rattle.net_part.proofs.units.greatest_common_divisor.Given as goal

abbrev pub decreases-loop-rest : goal.decreases-loop-rest
decreases-loop-rest l = l.rest
