use Rattle.fixed_worth.proofs.Common.{◌-◌, length, get_or, ltb-true, lt-ltb}
use Rattle.shells.proofs.Factors.{above_last, last_below}
use Rattle.shells.proofs.marking.is_above_all.Goals as goal

pub returns-else-count-eq0 : goal.returns-else-count-eq0
returns-else-count-eq0 c = (
  λ t. above_last c.args.factors.now c.args.k c.requires
      (ltb-true (get_or c.args.factors.now (length c.args.factors.now - 1) 0) c.args.k t),
  λ above. lt-ltb (get_or c.args.factors.now (length c.args.factors.now - 1) 0) c.args.k
      (last_below c.args.factors.now c.args.k (λ e. c.if-count-eq0.false e) above),
)
