-- The steps of the machine as a table: for each kind of step when a block makes it, and what it leaves.
use Rattle.std.specs.Prelude.{◌≡◌, ◌≢◌, ◌↔◌, ℕ, ◌<◌, ◌⊎◌, Option, Some, None, length, slice_get}
use Rattle.ordered_group.specs.Amount.{Amount, zero_amount, lesser_amount}
use Rattle.closure_net.specs.Prelude.{NetView, ports}
use Rattle.closure_net.specs.declared.port.Port.{Port}
use Rattle.closure_net.specs.declared.port.PortKind.TheVariants.{Forward}
use Rattle.machine_law.specs.declared.events.Event.{Event}
use Rattle.machine_law.specs.declared.events.Kind.{Kind}
use Rattle.machine_law.specs.declared.events.Kind.TheVariants.{ReadExcess, ReadCapacity, ReadLabel, TakeCapacity}
use Rattle.machine_law.specs.declared.events.Kind.TheVariants.{GiveCapacity, TakeExcess, GiveExcess, RaiseLabel}
use Rattle.machine_law.specs.declared.operations.Best.{Best}
use Rattle.machine_law.specs.declared.operations.Operation.TheVariants.{Idle, Scan, PushDue, TakeDue, GiveDue, RaiseDue}
use Rattle.machine_law.specs.States.{State}
use Rattle.machine_law.specs.Residual.{capacity, end_label}
use Rattle.machine_law.specs.Reads.{operation_begun_with, after_capacity, after_label}
use Rattle.machine_law.specs.Steps.{with_operation, after_push, after_take, after_give, after_raise, Step}
use Rattle.machine_law.specs.Amounts.{HasAmounts}

-- b has no operation; it sees its excess, and begins one where that is positive
pub record ReadsExcess (net : NetView) (s : State) (b : ℕ) (t : State) : Type 0 where
  pub idle : s.operation b ≡ Idle
  pub after : t ≡ with_operation s b (operation_begun_with (s.excess b))

-- the present port isn't forward, and its capacity isn't read; b sees it, and passes the port where it is zero
pub record ReadsCapacity (net : NetView) (s : State) (b : ℕ) (t : State) : Type 0 where
  pub have : Amount
  pub place : ℕ
  pub best : Option (Best Amount)
  pub port : Port
  pub scan : s.operation b ≡ Scan have place None best
  pub present : slice_get (ports net b) place ≡ Some port
  pub limited : port.kind ≢ Forward
  pub after : t ≡ with_operation s b
      (after_capacity (length (ports net b)) (s.label b) have place best (capacity net s b port))

-- The present port is forward, or its capacity was read; b sees the label at the other end, and passes the port, which
-- becomes the best one if there was none or its label is less. It is recorded with the capacity that was read, a
-- forward one with zero.
pub record ReadsLabel (net : NetView) (s : State) (b : ℕ) (t : State) : Type 0 where
  pub have : Amount
  pub place : ℕ
  pub read : Option Amount
  pub best : Option (Best Amount)
  pub port : Port
  pub recorded : Amount
  pub scan : s.operation b ≡ Scan have place read best
  pub present : slice_get (ports net b) place ≡ Some port
  pub due : ((port.kind ≡ Forward) × (read ≡ None) × (recorded ≡ zero_amount)) ⊎ (read ≡ Some recorded)
  pub after : t ≡ with_operation s b
      (after_label (length (ports net b)) (s.label b) have place best recorded port (end_label net s port))

-- a push is due, and the best port isn't forward: the flow of the pair or what b has of the source falls, or what it
-- gave the sink rises
pub record TakesCapacity (net : NetView) (s : State) (b : ℕ) (t : State) : Type 0 where
  pub have : Amount
  pub best : Best Amount
  pub due : s.operation b ≡ PushDue have best
  pub limited : best.port.kind ≢ Forward
  pub after : t ≡ after_push s b (lesser_amount have best.capacity) best.port

-- a push is due, and the best port is forward: the flow of the pair rises
pub record GivesCapacity (net : NetView) (s : State) (b : ℕ) (t : State) : Type 0 where
  pub have : Amount
  pub best : Best Amount
  pub due : s.operation b ≡ PushDue have best
  pub forward : best.port.kind ≡ Forward
  pub after : t ≡ after_push s b have best.port

-- after the capacity step: the excess of b falls
pub record TakesExcess (net : NetView) (s : State) (b : ℕ) (t : State) : Type 0 where
  pub amount : Amount
  pub port : Port
  pub due : s.operation b ≡ TakeDue amount port
  pub after : t ≡ after_take s b amount port

-- after TakeExcess: the other end's excess, or what has arrived there, rises; the operation ends
pub record GivesExcess (net : NetView) (s : State) (b : ℕ) (t : State) : Type 0 where
  pub amount : Amount
  pub port : Port
  pub due : s.operation b ≡ GiveDue amount port
  pub after : t ≡ after_give s b amount port

-- a raise is due: the label of b becomes one more than that read at the best port; the operation ends
pub record RaisesLabel (net : NetView) (s : State) (b : ℕ) (t : State) : Type 0 where
  pub have : Amount
  pub best : Best Amount
  pub due : s.operation b ≡ RaiseDue have best
  pub after : t ≡ after_raise s b best

-- b makes a step of this kind from s to t
abbrev pub Makes : NetView → State → ℕ → Kind → State → Type 0
Makes net s b ReadExcess t = ReadsExcess net s b t
Makes net s b ReadCapacity t = ReadsCapacity net s b t
Makes net s b ReadLabel t = ReadsLabel net s b t
Makes net s b TakeCapacity t = TakesCapacity net s b t
Makes net s b GiveCapacity t = GivesCapacity net s b t
Makes net s b TakeExcess t = TakesExcess net s b t
Makes net s b GiveExcess t = GivesExcess net s b t
Makes net s b RaiseLabel t = RaisesLabel net s b t

-- in a state that a run reaches, a step is a row of the table
abbrev pub StepsAreRows : Type 0
StepsAreRows = (net : NetView) (s : State) (e : Event) (t : State) → HasAmounts net s
    → Step net s e t ↔ ((e.block < length net.worths) × Makes net s e.block e.kind t)
