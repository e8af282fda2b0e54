-- What is on its way between blocks: it is stored nowhere, but is a sum over the operations.
use Rattle.std.specs.Prelude.{ℕ, ◌==◌, length}
use Rattle.ordered_group.specs.Prelude.{Amount, zero_amount, minus, positive, total, where_so, at_end, amount_at}
use Rattle.prec_file.specs.Rests.{from_at, to_at}
use Rattle.closure_net.specs.Network.{NetView}
use Rattle.closure_net.specs.declared.port.Port.{Port}
use Rattle.closure_net.specs.declared.port.PortKind.{PortKind}
use Rattle.closure_net.specs.declared.port.PortKind.TheVariants.{Sink, Source}
use Rattle.machine_law.specs.declared.operations.Operation.{Operation}
use Rattle.machine_law.specs.declared.operations.Operation.TheVariants.{TakeDue, GiveDue}
use Rattle.machine_law.specs.States.{State}

-- what a block's own push has yet to take out of its excess
abbrev pub amount_owed : Operation Amount → Amount
amount_owed (TakeDue d port) = d
amount_owed _ = zero_amount

-- what counts of a push that has made its capacity step and has not arrived, where f says what counts of an amount over
-- a port
abbrev pub on_way : (Port → Amount → Amount) → Operation Amount → Amount
on_way f (TakeDue d port) = f port d
on_way f (GiveDue d port) = f port d
on_way f _ = zero_amount

-- what counts of all pushes that have made their capacity step and have not arrived, over the operations of all blocks
unfoldable pub sum_on_way : NetView → (Port → Amount → Amount) → (ℕ → Operation Amount) → Amount
sum_on_way net f operation = total (λ b. on_way f (operation b)) (length net.worths)

-- by the kind of port, what of d goes into block x, to the sink, and to the source
abbrev pub amount_landing_by : PortKind → ℕ → ℕ → Amount → Amount
amount_landing_by Sink other x d = zero_amount
amount_landing_by Source other x d = zero_amount
amount_landing_by _ other x d = where_so (other == x) d

abbrev pub into_sink_by : PortKind → Amount → Amount
into_sink_by Sink d = d
into_sink_by _ d = zero_amount

abbrev pub into_source_by : PortKind → Amount → Amount
into_source_by Source d = d
into_source_by _ d = zero_amount

-- what of d goes over a port into block x, to the sink, and to the source
abbrev pub amount_landing : ℕ → Port → Amount → Amount
amount_landing x port d = amount_landing_by port.kind port.other x d

abbrev pub into_sink : Port → Amount → Amount
into_sink port d = into_sink_by port.kind d

abbrev pub into_source : Port → Amount → Amount
into_source port d = into_source_by port.kind d

-- the amounts of all pushes into x that have made their capacity step and have not arrived
abbrev pub amount_coming : NetView → State → ℕ → Amount
amount_coming net s x = sum_on_way net (amount_landing x) s.operation

-- the amounts of all pushes to the sink that have made their capacity step and have not arrived
abbrev pub amount_coming_to_sink : NetView → State → Amount
amount_coming_to_sink net s = sum_on_way net into_sink s.operation

-- the amounts of all pushes back to the source that have made their capacity step and have not arrived
abbrev pub amount_coming_to_source : NetView → State → Amount
amount_coming_to_source net s = sum_on_way net into_source s.operation

-- what comes into block b over pairs, from the blocks that rest on it
unfoldable pub inflow_at : NetView → (ℕ → Amount) → ℕ → Amount
inflow_at net flow b = at_end (to_at net.pairs) flow (length net.pairs) b

-- what goes out of block b over pairs, to the blocks that it rests on
unfoldable pub outflow_at : NetView → (ℕ → Amount) → ℕ → Amount
outflow_at net flow b = at_end (from_at net.pairs) flow (length net.pairs) b

-- what all blocks gave back to the source
unfoldable pub amount_given_back : NetView → (ℕ → Amount) → Amount
amount_given_back net source = total (λ b. minus (positive (amount_at net.worths b)) (source b)) (length net.worths)

-- what all blocks gave the sink
unfoldable pub amount_drained : NetView → (ℕ → Amount) → Amount
amount_drained net sink = total sink (length net.worths)
