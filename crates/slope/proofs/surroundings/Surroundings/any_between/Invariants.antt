use Rattle.std.proofs.Common.{◌≡◌, take}
use Rattle.slope.specs.Gathering.{LiesAtNone}
use Rattle.slope.proofs.surroundings.Surroundings.any_between.Given as goal

abbrev pub invariant-loop-step : goal.invariant-loop-step
invariant-loop-step l = (l.self ≡ l.initial.self) × LiesAtNone l.self l.i (take l.step-index l.steps)
