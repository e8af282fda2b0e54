-- Operations over numbers of any kind.
use Rattle.std.specs.Prelude.{Bool, true, false}
use Rattle.std.specs.Option.{option_map}
use Rattle.machine_law.specs.declared.operations.Best.{Best}
use Rattle.machine_law.specs.declared.operations.Operation.{Operation}
use Rattle.machine_law.specs.declared.operations.Operation.TheVariants.{Idle, Scan, PushDue, TakeDue, GiveDue, RaiseDue}

-- with each amount replaced by what f says of it
abbrev pub best_as : {N M : Type 0} → (N → M) → Best N → Best M
best_as f best = record { port = best.port; capacity = f best.capacity; label = best.label }

abbrev pub operation_as : {N M : Type 0} → (N → M) → Operation N → Operation M
operation_as f Idle = Idle
operation_as f (Scan have place read best) = Scan (f have) place (option_map f read) (option_map (best_as f) best)
operation_as f (PushDue have best) = PushDue (f have) (best_as f best)
operation_as f (TakeDue amount port) = TakeDue (f amount) port
operation_as f (GiveDue amount port) = GiveDue (f amount) port
operation_as f (RaiseDue have best) = RaiseDue (f have) (best_as f best)

-- whether there is no operation
abbrev pub is_idle : {N : Type 0} → Operation N → Bool
is_idle Idle = true
is_idle _ = false
