-- What is left of the network: the capacity of a port, and the label at its other end.
use Rattle.std.specs.Prelude.{◌≡◌, ℕ, ◌+◌, ◌<◌, length}
use Rattle.ordered_group.specs.Prelude.{Amount, zero_amount, minus, negative, amount_at}
use Rattle.prec_file.specs.Rests.{from_at, to_at}
use Rattle.closure_net.specs.Network.{NetView}
use Rattle.closure_net.specs.declared.port.Port.{Port}
use Rattle.closure_net.specs.declared.port.PortKind.{PortKind}
use Rattle.closure_net.specs.declared.port.PortKind.TheVariants.{Sink, Forward, Backward, Source}
use Rattle.machine_law.specs.States.{State}

-- what b may still give the sink
abbrev pub room : NetView → State → ℕ → Amount
room net s b = minus (negative (amount_at net.worths b)) (s.sink b)

-- by the kind of port: a forward port is unlimited, and its capacity is never asked for
abbrev pub capacity_by : NetView → State → ℕ → PortKind → ℕ → Amount
capacity_by net s b Sink slot = room net s b
capacity_by net s b Forward slot = zero_amount
capacity_by net s b Backward slot = s.flow slot
capacity_by net s b Source slot = s.source b

-- the capacity of a port of b
abbrev pub capacity : NetView → State → ℕ → Port → Amount
capacity net s b port = capacity_by net s b port.kind port.slot

-- by the kind of port, where the block at the other end has the label h: the sink stands at 0, the source above all
-- blocks
abbrev pub label_beyond : NetView → PortKind → ℕ → ℕ
label_beyond net Sink h = 0
label_beyond net Source h = length net.worths + 2
label_beyond net _ h = h

-- the label at the other end of a port
abbrev pub end_label : NetView → State → Port → ℕ
end_label net s port = label_beyond net port.kind (s.label port.other)

-- by the kind of port: its pair is one of the net's and has b and the other block as its ends; there is none at the
-- sink and the source
abbrev pub IsEnd : NetView → ℕ → PortKind → ℕ → ℕ → Type 0
IsEnd net b Forward other slot = (slot < length net.pairs) × (from_at net.pairs slot ≡ b)
    × (to_at net.pairs slot ≡ other)
IsEnd net b Backward other slot = (slot < length net.pairs) × (to_at net.pairs slot ≡ b)
    × (from_at net.pairs slot ≡ other)
IsEnd net b _ other slot = (other ≡ b) × (slot ≡ 0)

-- the port leads from b
abbrev pub IsPortOf : NetView → ℕ → Port → Type 0
IsPortOf net b port = IsEnd net b port.kind port.other port.slot
