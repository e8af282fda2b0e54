-- What a block does next, by what it read.
use Rattle.std.specs.Prelude.{ℕ, ◌+◌, ◌<◌, nat_lt, Bool, if◌then◌else◌, Option, Some, None}
use Rattle.ordered_group.specs.Amount.{Amount, zero_amount}
use Rattle.closure_net.specs.Ports.{is_below}
use Rattle.closure_net.specs.declared.port.Port.{Port}
use Rattle.machine_law.specs.declared.operations.Best.{Best}
use Rattle.machine_law.specs.declared.operations.Operation.{Operation}
use Rattle.machine_law.specs.declared.operations.Operation.TheVariants.{Idle, Scan, PushDue, TakeDue, GiveDue, RaiseDue}

-- x is greater than zero
abbrev pub is_positive : Amount → Bool
is_positive x = is_below zero_amount x

-- after its excess is read: where it is positive, the block looks at its ports from the first on
abbrev pub operation_begun_with : Amount → Operation Amount
operation_begun_with excess = if is_positive excess then Scan excess 0 None None else Idle

-- The best port, with one more: that with the lesser label, and the earlier one where the labels are equal.
abbrev pub better_of : {N : Type 0} → Option (Best N) → Best N → Best N
better_of None new = new
better_of (Some best) new = if nat_lt new.label best.label then new else best

-- After the last port is passed: a push is due where the block stands above the best port, and otherwise a raise. Where
-- no port was best, the operation ends.
abbrev pub after_last_port : {N : Type 0} → ℕ → N → Option (Best N) → Operation N
after_last_port label have None = Idle
after_last_port label have (Some best) = if nat_lt best.label label then PushDue have best else RaiseDue have best

-- after the port at this place of so many is passed, where the block has this label
abbrev pub after_port : {N : Type 0} → ℕ → ℕ → N → ℕ → Option (Best N) → Operation N
after_port count label have place best = if nat_lt (place + 1) count then Scan have (place + 1) None best else
    after_last_port label have best

-- after the capacity of the port at this place is read: where it is zero, the port is passed
abbrev pub after_capacity : ℕ → ℕ → Amount → ℕ → Option (Best Amount) → Amount → Operation Amount
after_capacity count label have place best capacity = if is_positive capacity then Scan have place
    (Some capacity) best else after_port count label have place best

-- after the label beyond the port at this place is read: the port may become the best one, and it is passed
abbrev pub after_label : {N : Type 0} → ℕ → ℕ → N → ℕ → Option (Best N) → N → Port → ℕ → Operation N
after_label count label have place best capacity port beyond = after_port count label have place
    (Some (better_of best (record { port = port; capacity = capacity; label = beyond })))

-- ---- the same as changes of an operation

-- the operation looks at one of so many ports
abbrev pub LooksAtPort : {N : Type 0} → ℕ → Operation N → Type 0
LooksAtPort count (Scan have place read best) = place < count
LooksAtPort count _ = ⊥

-- after the port that the operation looks at is passed
abbrev pub after_port_by : {N : Type 0} → ℕ → ℕ → Operation N → Operation N
after_port_by count label Idle = Idle
after_port_by count label (Scan have place read best) = after_port count label have place best
after_port_by count label (PushDue have best) = PushDue have best
after_port_by count label (TakeDue amount port) = TakeDue amount port
after_port_by count label (GiveDue amount port) = GiveDue amount port
after_port_by count label (RaiseDue have best) = RaiseDue have best
