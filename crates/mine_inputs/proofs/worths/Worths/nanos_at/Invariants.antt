use Rattle.std.proofs.Common.{◌≡◌, pos, ◌*ℤ◌, map, take}
use Rattle.mine_inputs.proofs.worths.Worths.nanos_at.Given as goal

abbrev pub invariant-loop-b : goal.invariant-loop-b
invariant-loop-b g l = l.nanos.items ≡ map (λ x. pos 1000 *ℤ x) (take l.b l.upit.values)
