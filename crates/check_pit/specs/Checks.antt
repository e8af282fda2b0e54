-- What a check of a pit and a flow finds.
use Rattle.std.specs.Prelude.{◌≡◌, ℕ, ◌<◌, ◌≤◌, Bool, List, length, slice_index_or, All, Contains}
use Rattle.closure_net.specs.Prelude.{NetView, FlowView, FlowFits, holds_of, Stays, IsClosed, NoneNegative, WithinAt}
use Rattle.closure_net.specs.Prelude.{IsBalancedAt, IsFlow, IsTight}
use Rattle.check_pit.specs.Fits.{BalanceFits, SumsFit, SomeSumOverflows}
use Rattle.check_pit.specs.declared.pit_fault.PitFault.{PitFault}
use Rattle.check_pit.specs.declared.pit_fault.PitFault.TheVariants.{WrongSize, NotClosed, Negative, OverCapacity}
use Rattle.check_pit.specs.declared.pit_fault.PitFault.TheVariants.{Unbalanced, NotTight, TooLarge}

-- the pit has blocks of the net only
abbrev pub IsOfNet : NetView → List ℕ → Type 0
IsOfNet net pit = All (λ b. b < length net.worths) pit

-- what proves a pit: its blocks are the net's, the flow is one, the pit is closed, and it is tight by the flow
pub record ProvesPit (net : NetView) (flow : FlowView) (pit : List ℕ) : Type 0 where
  pub of_net : IsOfNet net pit
  pub is_flow : IsFlow net flow
  pub closed : IsClosed net.pairs (holds_of pit)
  pub tight : IsTight net flow (holds_of pit)

-- the pit is proved, and every sum that a check makes of it fits
pub record IsSound (net : NetView) (flow : FlowView) (pit : List ℕ) : Type 0 where
  pub proves : ProvesPit net flow pit
  pub fits : SumsFit net flow pit

-- the flow has the net's lengths, and the pit has blocks of the net only
pub record Sizes (net : NetView) (flow : FlowView) (pit : List ℕ) : Type 0 where
  pub lengths : FlowFits net flow
  pub blocks : IsOfNet net pit

-- the set holds the predecessor of pair k, if it holds the block
abbrev pub StaysAt : List (ℕ × ℕ) → (ℕ → Bool) → ℕ → Type 0
StaysAt ps e k = Stays e (slice_index_or ps k (0, 0))

-- the pair is one of these, and the set holds its block while it lacks its predecessor
abbrev pub IsOpen : List (ℕ × ℕ) → (ℕ → Bool) → ℕ × ℕ → Type 0
IsOpen ps e pair = Contains ps pair × ¬ (Stays e pair)

-- of each pair before this one, the set holds the predecessor, if it holds the block
abbrev pub StayBefore : List (ℕ × ℕ) → (ℕ → Bool) → ℕ × ℕ → Type 0
StayBefore ps e pair = (i : ℕ) × (i < length ps) × (slice_index_or ps i (0, 0) ≡ pair)
    × ((j : ℕ) → j < i → StaysAt ps e j)

-- no amount of the flow is negative
pub record NoneBelowZero (flow : FlowView) : Type 0 where
  pub source : NoneNegative flow.source
  pub rest : NoneNegative flow.rest
  pub sink : NoneNegative flow.sink

-- block b gets from the source and gives the sink no more than its worth lets it
abbrev pub KeepsWithin : NetView → FlowView → ℕ → Type 0
KeepsWithin net flow b = WithinAt net.worths flow.source flow.sink b

-- every block does
abbrev pub AllWithin : NetView → FlowView → Type 0
AllWithin net flow = (b : ℕ) → b < length net.worths → KeepsWithin net flow b

-- the balance of b stands: its sums fit, and it holds
abbrev pub BalanceStands : NetView → FlowView → ℕ → Type 0
BalanceStands net flow b = BalanceFits net flow b × IsBalancedAt net flow b

-- every balance does
abbrev pub AllBalanced : NetView → FlowView → Type 0
AllBalanced net flow = (b : ℕ) → b < length net.worths → BalanceStands net flow b

-- sizes, closure and signs are as they should be
pub record PassesSigns (net : NetView) (flow : FlowView) (pit : List ℕ) : Type 0 where
  pub sizes : Sizes net flow pit
  pub closed : IsClosed net.pairs (holds_of pit)
  pub signs : NoneBelowZero flow

-- sizes, closure and signs are as they should be, and no arc carries more than its capacity
pub record PassesCapacities (net : NetView) (flow : FlowView) (pit : List ℕ) : Type 0 where
  pub signs : PassesSigns net flow pit
  pub within : AllWithin net flow

-- a block is balanced where the sums of its balance fit, and those of the blocks before it
abbrev pub BalancedWhileFit : NetView → FlowView → Type 0
BalancedWhileFit net flow = (b : ℕ) → b < length net.worths → ((k : ℕ) → k ≤ b → BalanceFits net flow k)
    → IsBalancedAt net flow b

-- Each fault by itself, whatever else may be wrong, and whether or not it is the first of its kind.
abbrev pub FaultHolds : NetView → FlowView → List ℕ → PitFault → Type 0
FaultHolds net flow pit WrongSize = ¬ (Sizes net flow pit)
FaultHolds net flow pit (NotClosed b p) = IsOpen net.pairs (holds_of pit) (b, p)
FaultHolds net flow pit Negative = ¬ (NoneBelowZero flow)
FaultHolds net flow pit (OverCapacity b) = (b < length net.worths) × ¬ (KeepsWithin net flow b)
FaultHolds net flow pit (Unbalanced b) = (b < length net.worths) × ¬ (IsBalancedAt net flow b)
FaultHolds net flow pit NotTight = ¬ (IsTight net flow (holds_of pit))
FaultHolds net flow pit TooLarge = SomeSumOverflows net flow pit

-- Nothing fails that is looked at before the fault, in this order: the sizes; the pairs; the signs; the blocks'
-- capacities; for each block the sums of its balance, and then the balance; the other sums; and whether the pit is
-- tight.
abbrev pub NoneBefore : NetView → FlowView → List ℕ → PitFault → Type 0
NoneBefore net flow pit WrongSize = Unit {0}
NoneBefore net flow pit (NotClosed b p) = Sizes net flow pit × StayBefore net.pairs (holds_of pit) (b, p)
NoneBefore net flow pit Negative = Sizes net flow pit × IsClosed net.pairs (holds_of pit)
NoneBefore net flow pit (OverCapacity b) = PassesSigns net flow pit × ((k : ℕ) → k < b → KeepsWithin net flow k)
NoneBefore net flow pit (Unbalanced b) = PassesCapacities net flow pit × ((k : ℕ) → k < b → BalanceStands net flow k)
    × BalanceFits net flow b
NoneBefore net flow pit NotTight = IsFlow net flow × IsOfNet net pit × IsClosed net.pairs (holds_of pit)
    × SumsFit net flow pit
NoneBefore net flow pit TooLarge = PassesCapacities net flow pit × BalancedWhileFit net flow

-- the fault holds, and it is the first that does
pub record PitFaultStands (net : NetView) (flow : FlowView) (pit : List ℕ) (fault : PitFault) : Type 0 where
  pub holds : FaultHolds net flow pit fault
  pub first : NoneBefore net flow pit fault
