-- A pit and a flow while their lines are read.
use Rattle.std.specs.Prelude.{◌≡◌, ℕ, ◌<◌, List, ◌++◌, length, slice_index_or, slice_set}
use Rattle.ordered_group.specs.Prelude.{Amount, amount_at}
use Rattle.closure_net.specs.Network.{FlowView, flow_view}
use Rattle.certificate_file.specs.declared.body_lines.BodyLine.{BodyLine}
use Rattle.certificate_file.specs.Certificate.{pit_of, given_amount, gives_source, gives_rest, gives_sink}

-- a pit and a flow, as far as they are gathered
pub record Gathered : Type 0 where
  pub pit : List ℕ
  pub flow : FlowView

-- another amount over pair k
abbrev pub with_rest : ℕ → Amount → Gathered → Gathered
with_rest k x g = record { pit = g.pit; flow = flow_view g.flow.source (slice_set g.flow.rest k x) g.flow.sink }

-- the lines are added to what was gathered before
pub record Adds (n : ℕ) (pairs : List (ℕ × ℕ)) (lines : List BodyLine) (before later : Gathered) : Type 0 where
  pub pit : later.pit ≡ before.pit ++ pit_of lines
  pub source : (b : ℕ) → b < n → amount_at later.flow.source b ≡ given_amount (gives_source b)
      (amount_at before.flow.source b) lines
  pub rest : (k : ℕ) → k < length pairs
      → amount_at later.flow.rest k ≡ given_amount (gives_rest (slice_index_or pairs k (0, 0)))
      (amount_at before.flow.rest k) lines
  pub sink : (b : ℕ) → b < n → amount_at later.flow.sink b ≡ given_amount (gives_sink b)
      (amount_at before.flow.sink b) lines
