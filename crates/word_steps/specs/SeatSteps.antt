-- What a step on a word asks of a seat, and makes of it.
use Rattle.std.specs.Prelude.{◌≡◌, ◌≢◌, ℕ, ◌+◌, ◌<◌, Bool, [], ◌∷◌}
use Rattle.atomic_table.specs.declared.shared.Seat.{Seat}
use Rattle.atomic_table.specs.declared.shared.Shared.{Shared}
use Rattle.closure_net.specs.Network.{NetView}
use Rattle.closure_net.specs.declared.port.PortKind.TheVariants.{Forward}
use Rattle.machine_law.specs.declared.operations.Operation.{Operation}
use Rattle.machine_law.specs.declared.operations.Operation.TheVariants.{Idle, Scan, PushDue, TakeDue, GiveDue, RaiseDue}
use Rattle.word_steps.specs.declared.view.View.{View}
use Rattle.word_steps.specs.declared.table.Rule.{Rule}
use Rattle.word_steps.specs.Layout.{width}
use Rattle.word_steps.specs.StepWords.{word_of, push_units}
use Rattle.word_steps.specs.Turns.{view_after_turn, IsLargeBy, IsPlaced, CanTurn}

-- the seat is of these words
pub record IsSeat (w : Shared (Unit {0}) View NetView Rule) (s : Seat (Unit {0}) View) : Type 0 where
  pub table : s.table_id ≡ w.table_id
  pub words : w.table_id.words ≡ width w.key
  pub net : s.me.0.net ≡ w.key

-- the step of b that is next is at the word i
pub record IsNextAt (v : View) (b i : ℕ) : Type 0 where
  pub may : CanTurn v b
  pub word : i ≡ word_of v.net b v.operation
  pub within : i < width v.net

-- v became w by the step of b, where the word was x
pub record HasTurned (b : ℕ) (v : View) (x : ℕ) (w : View) : Type 0 where
  pub is : w ≡ view_after_turn b v x
  pub placed : IsPlaced v.net b w.operation
  pub large : IsLargeBy v.net w.stopped w.operation

-- the seat is the one that it was
pub record IsSame (s s' : Seat (Unit {0}) View) : Type 0 where
  pub table : s'.table_id ≡ s.table_id
  pub id : s'.id ≡ s.id
  pub slots : s'.me.1 ≡ s.me.1

-- the step reads its word
abbrev pub StepReads : Operation ℕ → Type 0
StepReads Idle = Unit {0}
StepReads (Scan have place read best) = Unit {0}
StepReads _ = ⊥

-- the step adds k to its word
abbrev pub StepAdds : Operation ℕ → ℕ → Type 0
StepAdds (PushDue have best) k = (best.port.kind ≡ Forward) × (k ≡ have)
StepAdds (GiveDue d port) k = k ≡ d
StepAdds _ k = ⊥

-- the step takes k from its word
abbrev pub Subtracts : Operation ℕ → ℕ → Type 0
Subtracts (PushDue have best) k = (best.port.kind ≢ Forward) × (k ≡ push_units have best.port.kind best.capacity)
Subtracts (TakeDue d port) k = k ≡ d
Subtracts _ k = ⊥

-- the step stores k in its word
abbrev pub Stores : Operation ℕ → ℕ → Type 0
Stores (RaiseDue have best) k = k ≡ best.label + 1
Stores _ k = ⊥
