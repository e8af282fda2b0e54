-- Where each number of a state lies among the words.
use Rattle.std.specs.Prelude.{◌≡◌, ℕ, pos, ◌+◌, ◌<◌, List, length, slice_index}
use Rattle.atomic_table.specs.Table.{State}
use Rattle.ordered_group.specs.Amount.{Amount}
use Rattle.closure_net.specs.Network.{NetView}
use Rattle.machine_law.specs.States as law
use Rattle.machine_law.specs.Residual.{room}

-- so many units
abbrev pub units : ℕ → Amount
units k = record { w = pos k; c = pos 0 }

-- ---- where each number lies
abbrev pub count : NetView → ℕ
count net = length net.worths

abbrev pub excess_at : NetView → ℕ → ℕ
excess_at net x = 2 + x

abbrev pub label_at : NetView → ℕ → ℕ
label_at net x = 2 + count net + x

abbrev pub source_at : NetView → ℕ → ℕ
source_at net x = 2 + count net + count net + x

abbrev pub room_at : NetView → ℕ → ℕ
room_at net x = 2 + count net + count net + count net + x

abbrev pub flow_at : NetView → ℕ → ℕ
flow_at net k = 2 + count net + count net + count net + count net + k

abbrev pub width : NetView → ℕ
width net = 2 + count net + count net + count net + count net + length net.pairs

-- the words show the state t
pub record Cells (net : NetView) (t : law.State) (ws : List ℕ) : Type 0 where
  pub wide : length ws ≡ width net
  pub at_source : t.at_source ≡ units (slice_index ws 0)
  pub at_sink : t.at_sink ≡ units (slice_index ws 1)
  pub excess : (x : ℕ) → x < count net → t.excess x ≡ units (slice_index ws (excess_at net x))
  pub label : (x : ℕ) → x < count net → t.label x ≡ slice_index ws (label_at net x)
  pub source : (x : ℕ) → x < count net → t.source x ≡ units (slice_index ws (source_at net x))
  pub room : (x : ℕ) → x < count net → room net t x ≡ units (slice_index ws (room_at net x))
  pub flow : (k : ℕ) → k < length net.pairs → t.flow k ≡ units (slice_index ws (flow_at net k))
