-- What holds of the amounts of a state, and of what the operations remember of them.
use Rattle.std.specs.Prelude.{ℕ, ◌<◌, Option, Some, None, length, slice_get}
use Rattle.ordered_group.specs.Prelude.{Amount, zero_amount, AtMost, Below, positive, negative, amount_at}
use Rattle.closure_net.specs.Prelude.{NetView, ports}
use Rattle.closure_net.specs.declared.port.Port.{Port}
use Rattle.closure_net.specs.declared.port.PortKind.{PortKind}
use Rattle.closure_net.specs.declared.port.PortKind.TheVariants.{Sink, Forward, Backward, Source}
use Rattle.machine_law.specs.declared.operations.Best.{Best}
use Rattle.machine_law.specs.declared.operations.Operation.{Operation}
use Rattle.machine_law.specs.declared.operations.Operation.TheVariants.{Idle, Scan, PushDue, TakeDue, GiveDue, RaiseDue}
use Rattle.machine_law.specs.States.{State}
use Rattle.machine_law.specs.Residual.{capacity_by, IsPortOf}

-- by the kind of port: an amount that was read as its capacity is positive, and at most what it is now
abbrev pub IsWithinBy : NetView → State → ℕ → PortKind → ℕ → Amount → Type 0
IsWithinBy net s b Sink slot x = Below zero_amount x × AtMost x (capacity_by net s b Sink slot)
IsWithinBy net s b Forward slot x = Unit {0}
IsWithinBy net s b Backward slot x = Below zero_amount x × AtMost x (capacity_by net s b Backward slot)
IsWithinBy net s b Source slot x = Below zero_amount x × AtMost x (capacity_by net s b Source slot)

-- an amount that was read as the capacity of this port is positive, and at most what it is now; a forward one's isn't
-- read
abbrev pub IsWithin : NetView → State → ℕ → Port → Amount → Type 0
IsWithin net s b port x = IsWithinBy net s b port.kind port.slot x

-- the best port is a port of b, and its capacity is at least what was read
pub record IsBestPort (net : NetView) (s : State) (b : ℕ) (best : Best Amount) : Type 0 where
  pub port : IsPortOf net b best.port
  pub within : IsWithin net s b best.port best.capacity

abbrev pub IsBestIfAny : NetView → State → ℕ → Option (Best Amount) → Type 0
IsBestIfAny net s b None = Unit {0}
IsBestIfAny net s b (Some best) = IsBestPort net s b best

-- the capacity of the present port is at least what was read, if it was
abbrev pub IsReadCapacity : NetView → State → ℕ → Option Amount → Option Port → Type 0
IsReadCapacity net s b None port = Unit {0}
IsReadCapacity net s b (Some x) None = ⊥
IsReadCapacity net s b (Some x) (Some port) = IsWithin net s b port x

-- the amount is positive, and the block has it
pub record IsHeld (s : State) (b : ℕ) (d : Amount) : Type 0 where
  pub some : Below zero_amount d
  pub held : AtMost d (s.excess b)

-- a scan is at one of the ports, with an excess that the block still has
pub record IsScan (net : NetView) (s : State) (b : ℕ) (have : Amount) (place : ℕ) (read : Option Amount)
    (best : Option (Best Amount)) : Type 0 where
  pub inside : place < length (ports net b)
  pub held : IsHeld s b have
  pub passed : IsBestIfAny net s b best
  pub present : IsReadCapacity net s b read (slice_get (ports net b) place)

-- a push or a raise is due
pub record IsDue (net : NetView) (s : State) (b : ℕ) (have : Amount) (best : Best Amount) : Type 0 where
  pub held : IsHeld s b have
  pub over : IsBestPort net s b best

-- what holds of an operation of b
abbrev pub IsOperation : NetView → State → ℕ → Operation Amount → Type 0
IsOperation net s b Idle = Unit {0}
IsOperation net s b (Scan have place read best) = IsScan net s b have place read best
IsOperation net s b (PushDue have best) = IsDue net s b have best
IsOperation net s b (TakeDue d port) = IsHeld s b d × IsPortOf net b port
IsOperation net s b (GiveDue d port) = Below zero_amount d × IsPortOf net b port
IsOperation net s b (RaiseDue have best) = IsDue net s b have best

-- No amount is negative, no block has more of the source than is positive of its worth, none gave the sink more than is
-- negative of it, and what the operations remember still stands.
pub record HasAmounts (net : NetView) (s : State) : Type 0 where
  pub excess : (b : ℕ) → AtMost zero_amount (s.excess b)
  pub source : (b : ℕ) → AtMost zero_amount (s.source b)
  pub source_most : (b : ℕ) → AtMost (s.source b) (positive (amount_at net.worths b))
  pub sink : (b : ℕ) → AtMost zero_amount (s.sink b)
  pub sink_most : (b : ℕ) → AtMost (s.sink b) (negative (amount_at net.worths b))
  pub flow : (k : ℕ) → AtMost zero_amount (s.flow k)
  pub at_source : AtMost zero_amount s.at_source
  pub at_sink : AtMost zero_amount s.at_sink
  pub operation : (b : ℕ) → IsOperation net s b (s.operation b)
