use Rattle.std.proofs.Common.{◌≡◌, false}
use Rattle.places.specs.Grids.{leads_at}
use Rattle.places.proofs.grid.Grid.leads.Given as goal

abbrev pub invariant-loop-k : goal.invariant-loop-k
invariant-loop-k l = leads_at l.fn.self l.fn.b l.fn.p l.k ≡ false
