-- The ports of a block: where an amount may leave it, in the order in which they are tried.
use Rattle.std.specs.Prelude.{ℕ, Bool, cond, List, [], ◌∷◌, ◌++◌, map, length}
use Rattle.std.specs.Ordering.{is_lt}
use Rattle.ordered_group.specs.Prelude.{Amount, zero_amount, amount_cmp, amount_at}
use Rattle.prec_file.specs.Rests.{from_at, to_at, numbers}
use Rattle.closure_net.specs.Network.{NetView}
use Rattle.closure_net.specs.declared.port.Port.{Port}
use Rattle.closure_net.specs.declared.port.PortKind.TheVariants.{Sink, Forward, Backward, Source}

-- whether x is below y
abbrev pub is_below : Amount → Amount → Bool
is_below x y = is_lt (amount_cmp x y)

-- from block b to the sink, and back to the source
abbrev pub sink_port : ℕ → Port
sink_port b = record { kind = Sink; other = b; slot = 0 }

abbrev pub source_port : ℕ → Port
source_port b = record { kind = Source; other = b; slot = 0 }

-- over pair k to the block that is rested on
abbrev pub forward_port : (ℕ → ℕ) → ℕ → Port
forward_port to k = record { kind = Forward; other = to k; slot = k }

-- back over pair k to the block that rests
abbrev pub backward_port : (ℕ → ℕ) → ℕ → Port
backward_port from k = record { kind = Backward; other = from k; slot = k }

-- of m pairs, the ports to the blocks that b rests on
abbrev pub forward_ports : (ℕ → ℕ) → (ℕ → ℕ) → ℕ → ℕ → List Port
forward_ports from to m b = map (forward_port to) (numbers from b m)

-- of m pairs, the ports to the blocks that rest on b
abbrev pub backward_ports : (ℕ → ℕ) → (ℕ → ℕ) → ℕ → ℕ → List Port
backward_ports from to m b = map (backward_port from) (numbers to b m)

-- The ports of a block b that is worth w, where m pairs have these ends: the sink where w is negative, each block that
-- b rests on, each block that rests on b, and the source where w is positive.
unfoldable pub port_list : (ℕ → ℕ) → (ℕ → ℕ) → ℕ → Amount → ℕ → List Port
port_list from to m w b = cond (is_below w zero_amount) (sink_port b ∷ []) []
    ++ (forward_ports from to m b
    ++ (backward_ports from to m b ++ cond (is_below zero_amount w) (source_port b ∷ []) []))

-- the ports of block b of a net
abbrev pub ports : NetView → ℕ → List Port
ports net b = port_list (from_at net.pairs) (to_at net.pairs) (length net.pairs) (amount_at net.worths b) b
