-- A block's look at its ports, as changes of its operation.
use Rattle.std.specs.Prelude.{◌≡◌, ℕ, Bool, true, false, Option, Some, None, length}
use Rattle.ordered_group.specs.Amount.{Amount, zero_amount}
use Rattle.closure_net.specs.declared.port.Port.{Port}
use Rattle.closure_net.specs.declared.port.PortKind.{PortKind}
use Rattle.closure_net.specs.declared.port.PortKind.TheVariants.{Forward}
use Rattle.closure_net.specs.Prelude.{NetView, ports}
use Rattle.machine_law.specs.Prelude.{State, capacity, end_label, better_of, after_capacity, after_port_by}
use Rattle.machine_law.specs.declared.operations.Operation.{Operation}
use Rattle.machine_law.specs.declared.operations.Operation.TheVariants.{Idle, Scan, PushDue, TakeDue, GiveDue, RaiseDue}

-- whether a capacity was read
abbrev pub has_read : {N : Type 0} → Option N → Bool
has_read None = false
has_read (Some capacity) = true

-- the operation looks at the port at this place, whose capacity is read or not
abbrev pub IsScanAt : {N : Type 0} → ℕ → Bool → Operation N → Type 0
IsScanAt at is_read (Scan have place read best) = (place ≡ at) × (has_read read ≡ is_read)
IsScanAt at is_read _ = ⊥

-- the capacity that was read, and zero where none was
abbrev pub read_or_zero : Option Amount → Amount
read_or_zero None = zero_amount
read_or_zero (Some capacity) = capacity

-- with one more port that may be the best
abbrev pub with_candidate : Port → ℕ → Operation Amount → Operation Amount
with_candidate port beyond Idle = Idle
with_candidate port beyond (Scan have place read best) = Scan have place read
    (Some (better_of best (record { port = port; capacity = read_or_zero read; label = beyond })))
with_candidate port beyond (PushDue have best) = PushDue have best
with_candidate port beyond (TakeDue amount port₁) = TakeDue amount port₁
with_candidate port beyond (GiveDue amount port₁) = GiveDue amount port₁
with_candidate port beyond (RaiseDue have best) = RaiseDue have best

-- after the capacity of the port is read
abbrev pub after_capacity_by : ℕ → ℕ → Amount → Operation Amount → Operation Amount
after_capacity_by count label capacity Idle = Idle
after_capacity_by count label capacity (Scan have place read best) = after_capacity count label have place best capacity
after_capacity_by count label capacity (PushDue have best) = PushDue have best
after_capacity_by count label capacity (TakeDue amount port) = TakeDue amount port
after_capacity_by count label capacity (GiveDue amount port) = GiveDue amount port
after_capacity_by count label capacity (RaiseDue have best) = RaiseDue have best

-- after the label beyond the port is read
abbrev pub after_label_by : ℕ → ℕ → Port → ℕ → Operation Amount → Operation Amount
after_label_by count label port beyond o = after_port_by count label (with_candidate port beyond o)

-- after a read at a port of this kind whose capacity isn't read: of its capacity, or of the label beyond a forward one
abbrev pub operation_after_look : NetView → State → ℕ → Port → PortKind → Operation Amount → Operation Amount
operation_after_look net s b port Forward o = after_label_by (length (ports net b)) (s.label b) port
    (end_label net s port) o
operation_after_look net s b port _ o = after_capacity_by (length (ports net b)) (s.label b) (capacity net s b port) o
