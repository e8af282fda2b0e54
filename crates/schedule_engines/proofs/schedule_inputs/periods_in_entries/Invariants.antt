use Rattle.fixed_worth.proofs.Common.{◌≡◌, map, take}
use Rattle.schedule_engines.proofs.schedule_inputs.periods_in_entries.Given as goal

abbrev pub invariant-loop-b : goal.invariant-loop-b
invariant-loop-b l = l.periods.items ≡ map (λ e. e.period) (take l.b l.entries)
