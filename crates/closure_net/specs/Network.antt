-- Nets, flows and sets of blocks, as contracts see them.
use Rattle.std.specs.Prelude.{◌≡◌, ℕ, ◌<◌, ◌==◌, Bool, List, length, slice_index}
use Rattle.std.specs.List.{list_any}
use Rattle.ordered_group.specs.Prelude.{Amount, zero_amount, minus, positive, FitsPair, amount_at, SumFits}
use Rattle.prec_file.specs.Rests.{RestsView, IsRests}

-- the pairs (b, p) in which b rests on p, and the worth of each block
pub record NetView : Type 0 where
  pub pairs : List (ℕ × ℕ)
  pub worths : List Amount

-- an amount from the source for each block, one for each pair, and one to the sink for each block
pub record FlowView : Type 0 where
  pub source : List Amount
  pub rest : List Amount
  pub sink : List Amount

-- the net with these pairs and worths
abbrev pub net_view : List (ℕ × ℕ) → List Amount → NetView
net_view ps ws = record { pairs = ps; worths = ws }

-- the flow with these amounts
abbrev pub flow_view : List Amount → List Amount → List Amount → FlowView
flow_view ss fs ts = record { source = ss; rest = fs; sink = ts }

-- whether a list of blocks holds b
abbrev pub holds_of : List ℕ → ℕ → Bool
holds_of blocks b = list_any (λ x. x == b) blocks

-- each block is above the one before it
abbrev pub IsAscending : List ℕ → Type 0
IsAscending xs = (i j : ℕ) → i < j → j < length xs → slice_index xs i < slice_index xs j

-- what every net is: its pairs are in order and of its blocks, each worth has an opposite that fits, and so does each
-- sum of the positive worths in their order
pub record IsNet (net : NetView) : Type 0 where
  pub rests : IsRests (record { blocks = length net.worths; pairs = net.pairs })
  pub opposites : (b : ℕ) → b < length net.worths → FitsPair (minus zero_amount (amount_at net.worths b))
  pub positives : SumFits (λ b. positive (amount_at net.worths b)) (length net.worths)

-- the three lengths of a flow are those of the net
pub record FlowFits (net : NetView) (flow : FlowView) : Type 0 where
  pub source : length flow.source ≡ length net.worths
  pub rest : length flow.rest ≡ length net.pairs
  pub sink : length flow.sink ≡ length net.worths

-- the parts of a net make one
pub record IsNetParts (rests : RestsView) (worths : List Amount) : Type 0 where
  pub blocks : rests.blocks ≡ length worths
  pub net : IsNet (net_view rests.pairs worths)
