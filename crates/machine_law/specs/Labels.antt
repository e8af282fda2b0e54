-- What holds of the labels: no arc with capacity is steep, but for backward arcs whose capacity the block can spare.
use Rattle.std.specs.Prelude.{◌≡◌, ℕ, ◌+◌, ◌<◌, ◌≤◌, ◌⊎◌, ◌==◌, nat_lt, Bool, true, false, not, ◌&&◌, if◌then◌else◌}
use Rattle.std.specs.Prelude.{Option, Some, None, List, [], drop, length}
use Rattle.std.specs.List.{list_any}
use Rattle.ordered_group.specs.Prelude.{Amount, zero_amount, minus, AtMost, Below, positive, total, where_so, amount_at}
use Rattle.prec_file.specs.Rests.{from_at, to_at}
use Rattle.closure_net.specs.Prelude.{NetView, ports, backward_port}
use Rattle.closure_net.specs.declared.port.Port.{Port}
use Rattle.closure_net.specs.declared.port.PortKind.{PortKind}
use Rattle.closure_net.specs.declared.port.PortKind.TheVariants.{Sink, Forward, Backward, Source}
use Rattle.machine_law.specs.declared.operations.Best.{Best}
use Rattle.machine_law.specs.declared.operations.Operation.{Operation}
use Rattle.machine_law.specs.declared.operations.Operation.TheVariants.{Scan, PushDue, RaiseDue}
use Rattle.machine_law.specs.States.{State}
use Rattle.machine_law.specs.Residual.{room, end_label, IsPortOf}
use Rattle.machine_law.specs.Balances.{supply}

-- the sum of the flows of the pairs in which a block rests on b, of those that pass the test
unfoldable pub arcs : NetView → (ℕ → Bool) → (ℕ → Amount) → ℕ → Amount
arcs net test flow b = total (λ k. where_so ((to_at net.pairs k == b) && test k) (flow k)) (length net.pairs)

-- the capacity of b's backward arcs that fall by more than one label
abbrev pub steep_capacity : NetView → State → ℕ → Amount
steep_capacity net s b = arcs net (λ k. nat_lt (s.label (from_at net.pairs k) + 1) (s.label b)) s.flow b

-- ---- what an operation remembers of labels

-- the label beyond the backward arc of pair k, where it has this label: at the best port the one that was read
abbrev pub label_by : PortKind → ℕ → ℕ → ℕ → ℕ → ℕ
label_by Backward slot read k label = if slot == k then read else label
label_by _ slot read k label = label

abbrev pub label_seen : Option (Best Amount) → ℕ → ℕ → ℕ
label_seen None k label = label
label_seen (Some best) k label = label_by best.port.kind best.port.slot best.label k label

-- the steep bound's capacity, where the best port counts by the label that was read
abbrev pub high_capacity : NetView → State → ℕ → Option (Best Amount) → Amount
high_capacity net s b best = arcs net
    (λ k. nat_lt (label_seen best k (s.label (from_at net.pairs k)) + 1) (s.label b)) s.flow b

-- whether two ports of one block are the same
abbrev pub same_by : PortKind → PortKind → ℕ → ℕ → Bool
same_by Sink Sink i j = true
same_by Forward Forward i j = i == j
same_by Backward Backward i j = i == j
same_by Source Source i j = true
same_by _ _ i j = false

abbrev pub same_port : Port → Port → Bool
same_port p q = same_by p.kind q.kind p.slot q.slot

-- whether p is one of these ports
abbrev pub ports_have : List Port → Port → Bool
ports_have ps p = list_any (λ q. same_port q p) ps

-- whether a label is below that of the best port
abbrev pub is_under : Option (Best Amount) → ℕ → Bool
is_under None label = true
is_under (Some best) label = nat_lt label best.label

-- the capacity of the backward arcs that are passed and end below the best port, or of all that are passed while there
-- is none
abbrev pub low_capacity : NetView → State → ℕ → List Port → Option (Best Amount) → Amount
low_capacity net s b rest best = arcs net
    (λ k. not (ports_have rest (backward_port (from_at net.pairs) k)) && is_under best
    (s.label (from_at net.pairs k))) s.flow b

-- by the kind of port: it isn't backward, and has capacity
abbrev pub IsOpenBy : NetView → State → ℕ → PortKind → Type 0
IsOpenBy net s b Sink = Below zero_amount (room net s b)
IsOpenBy net s b Forward = Unit {0}
IsOpenBy net s b Backward = ⊥
IsOpenBy net s b Source = Below zero_amount (s.source b)

-- the best port's label is at most this one
abbrev pub IsAbove : Option (Best Amount) → ℕ → Type 0
IsAbove None label = ⊥
IsAbove (Some best) label = best.label ≤ label

-- by the kind of port: a block with this label falls by at most one label over it, unless it is backward; the source's
-- label never changes
abbrev pub IsNearLabel : NetView → PortKind → ℕ → ℕ → Type 0
IsNearLabel net Backward own label = Unit {0}
IsNearLabel net Source own label = (own ≤ label + 1) × (length net.worths + 2 ≤ label)
IsNearLabel net _ own label = own ≤ label + 1

-- the label that was read at the best port is at most the present one, and near
pub record IsBestLabel (net : NetView) (s : State) (b : ℕ) (best : Best Amount) : Type 0 where
  pub recorded : best.label ≤ end_label net s best.port
  pub near : IsNearLabel net best.port.kind (s.label b) best.label

abbrev pub IsLevelIfAny : NetView → State → ℕ → Option (Best Amount) → Type 0
IsLevelIfAny net s b None = Unit {0}
IsLevelIfAny net s b (Some best) = IsBestLabel net s b best

-- An operation of b has these ports still to pass. The backward arcs that are passed and end below the best port hold
-- at most what b will have beyond what the operation has; the steep bound holds also with the best port at the label
-- that was read; and of the open ports that are passed none ends below the best one, nor is there any while there is no
-- best one.
pub record IsWalk (net : NetView) (s : State) (b : ℕ) (have : Amount) (rest : List Port)
    (best : Option (Best Amount)) : Type 0 where
  pub level : IsLevelIfAny net s b best
  pub low_most : AtMost (low_capacity net s b rest best) (minus (supply net s b) have)
  pub high_most : AtMost (high_capacity net s b best) (supply net s b)
  pub passed : (p : Port) → IsPortOf net b p → IsOpenBy net s b p.kind → ports_have rest p ≡ false
      → IsAbove best (end_label net s p)

-- what holds of an operation of b: a push is due where the block stands above the best port, and a raise where it
-- doesn't
abbrev pub IsLevelled : NetView → State → ℕ → Operation Amount → Type 0
IsLevelled net s b (Scan have place read best) = IsWalk net s b have (drop place (ports net b)) best
IsLevelled net s b (PushDue have best) = IsWalk net s b have [] (Some best) × (best.label < s.label b)
IsLevelled net s b (RaiseDue have best) = IsWalk net s b have [] (Some best) × (s.label b ≤ best.label)
IsLevelled net s b _ = Unit {0}

-- Forward arcs, and those to the sink and the source that have capacity, fall by at most one label: the sink stands at
-- 0, the source at n + 2. A block that has given anything back to the source stands above it. The steep backward arcs
-- of a block hold at most what the block will have.
pub record HasLabels (net : NetView) (s : State) : Type 0 where
  pub forward : (k : ℕ) → k < length net.pairs → s.label (from_at net.pairs k) ≤ s.label (to_at net.pairs k) + 1
  pub sink : (b : ℕ) → Below zero_amount (room net s b) → s.label b ≤ 1
  pub source : (b : ℕ) → Below zero_amount (s.source b) → s.label b ≤ length net.worths + 3
  pub left : (b : ℕ) → (s.source b ≡ positive (amount_at net.worths b)) ⊎ (length net.worths + 2 < s.label b)
  pub steep_most : (b : ℕ) → AtMost (steep_capacity net s b) (supply net s b)
  pub operation : (b : ℕ) → IsLevelled net s b (s.operation b)
