-- What an accepted pit is known to be.
use Rattle.std.specs.Prelude.{◌≡◌, ℕ, List}
use Rattle.ordered_group.specs.Amount.{Amount}
use Rattle.closure_net.specs.Prelude.{NetView, holds_of, IsGreatest, group_worth}
use Rattle.check_pit.specs.Checks.{IsOfNet}

-- the net, the pit, and what the pit sums to
pub record AcceptedView : Type 0 where
  pub net : NetView
  pub pit : List ℕ
  pub worth : Amount

-- the pit's blocks are the net's, it is closed, no closed set sums to more, and the worth is what it sums to
pub record IsAccepted (a : AcceptedView) : Type 0 where
  pub of_net : IsOfNet a.net a.pit
  pub greatest : IsGreatest a.net (holds_of a.pit)
  pub worth : a.worth ≡ group_worth a.net.worths (holds_of a.pit)
