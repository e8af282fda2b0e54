-- The step that is computed from a block's operation is the row of the table that asks for that operation.
use Rattle.fixed_worth.proofs.Common.{◌≡◌, ℕ, ◌<◌, Option, Some, None, length, get_or, arith, slice_get}
use Rattle.fixed_worth.proofs.Common.{slice_get-get_or, common_steps}
use Rattle.ordered_group.specs.Amount.{Amount}
use Rattle.closure_net.specs.Prelude.{NetView, ports, sink_port}
use Rattle.closure_net.specs.declared.port.PortKind.{PortKind}
use Rattle.machine_law.specs.declared.operations.Best.{Best}
use Rattle.machine_law.specs.declared.operations.Operation.{Operation}
use Rattle.machine_law.specs.declared.operations.Operation.TheVariants.{Scan}
use Rattle.machine_law.specs.Prelude.{State, next_of, read_kind, with_operation, after_look_by, advance_by, IsOperation}
use Rattle.machine_law.specs.Prelude.{Makes, StepsAreRows}
use Rattle.machine_law.proofs.PortLists.{port_with}

module _ (net : NetView) (s : State) (b : ℕ) where
  -- ---- the row of the kind that is next leaves what is computed
  row_looked : (t : State) (have : Amount) (place : ℕ) (best : Option (Best Amount)) (kind : PortKind)
      (other slot : ℕ) → s.operation b ≡ Scan have place None best
      → slice_get (ports net b) place ≡ Some (port_with kind other slot)
      → t ≡ with_operation s b (after_look_by net s b have place best (port_with kind other slot) kind)
      → Makes net s b (read_kind kind) t
  row_looked t have place best kind other slot e at after = grind (arith, common_steps)

  -- the port at a place of the list
  port_here : (place : ℕ) → place < length (ports net b)
      → slice_get (ports net b) place ≡ Some (get_or (ports net b) place (sink_port b))
  port_here place l = slice_get-get_or (ports net b) place (sink_port b) l

  row_by : (o : Operation Amount) (t : State) → s.operation b ≡ o → IsOperation net s b o → t ≡ advance_by net s b o
      → Makes net s b (next_of net b o) t
  row_by o t e i after = grind (arith, common_steps, port_here, row_looked)
  -- ---- a row is the step that is next

pub steps_are_rows : StepsAreRows
steps_are_rows net s e t h = grind (arith, common_steps, row_by)
