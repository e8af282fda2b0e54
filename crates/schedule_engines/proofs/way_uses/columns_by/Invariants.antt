use Rattle.fixed_worth.proofs.Common.{◌≡◌}
use Rattle.schedule_engines.specs.WayUses.{columns_by}
use Rattle.schedule_engines.proofs.way_uses.columns_by.Given as goal

abbrev pub invariant-loop-r : goal.invariant-loop-r
invariant-loop-r l = l.columns.items ≡ columns_by l.resources l.width l.r l.way
