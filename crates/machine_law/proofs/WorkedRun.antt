-- The machine of the definitions on runs worked by hand. In the first, blocks of worth 4, -1 and 4, of which the first
-- and the last rest on the middle one, make 140 steps, in which a push waits while others pass it, and end quiet. In
-- the second, a block rests on two with the same label. The file stands by its last lines: what is seen after each row
-- of a run is what the row says.
use Rattle.std.proofs.Common.{◌≡◌, ℕ, ℤ, pos, negsuc, true, false, ◌==◌, ◌&&◌, nat_lt, Option, Some, None, List, []}
use Rattle.std.proofs.Common.{◌∷◌, map, length, refl}
use Rattle.ordered_group.specs.Amount.{Amount}
use Rattle.closure_net.specs.Prelude.{NetView, port_list}
use Rattle.machine_law.specs.declared.events.Event.{Event}
use Rattle.machine_law.specs.declared.events.Kind.{Kind}
use Rattle.machine_law.specs.declared.events.Kind.TheVariants.{ReadExcess, ReadCapacity, ReadLabel, TakeCapacity}
use Rattle.machine_law.specs.declared.events.Kind.TheVariants.{GiveCapacity, TakeExcess, GiveExcess, RaiseLabel}
use Rattle.machine_law.specs.Prelude.{State, with_value_at, opening, next_kind, advance, amount_owed, amount_coming}
use Rattle.machine_law.specs.Prelude.{sum_on_way, arcs, steep_capacity}

abbrev number : Kind → ℕ
number ReadExcess = 0
number ReadCapacity = 1
number ReadLabel = 2
number TakeCapacity = 3
number GiveCapacity = 4
number TakeExcess = 5
number GiveExcess = 6
number RaiseLabel = 7

abbrev whole : ℤ → Amount
whole z = record { w = z; c = pos 0 }

abbrev net : NetView
net = record { pairs = (0, 1) ∷ (2, 1) ∷ []; worths = whole (pos 4) ∷ whole (negsuc 0) ∷ whole (pos 4) ∷ [] }

-- the state after these steps, if each is the one that is next
abbrev follow : NetView → State → List Event → Option State
follow over s [] = Some s
follow over s (e ∷ es) = elim
    (number (next_kind over s e.block) == number e.kind && nat_lt e.block (length over.worths))
    [ true ↦ follow over (advance over s e.block) es | false ↦ None ]

-- steps of one block, and what is seen after them
record Row : Type 0 where
  block : ℕ
  kinds : List Kind
  see : State → List ℤ
  says : List ℤ

abbrev after : ℕ → List Kind → (State → List ℤ) → List ℤ → Row
after b ks see says = record { block = b; kinds = ks; see = see; says = says }

abbrev label : ℕ → State → List ℤ
label b s = pos (s.label b) ∷ []

-- the flow of a pair, and the excess of a block
abbrev flow : ℕ → ℕ → State → List ℤ
flow k b s = (s.flow k).w ∷ (s.excess b).w ∷ []

-- labels, excesses, flows, source amounts, the sink amount of block 1, what comes to it, what block 0 owes, what is
-- steep at 1
abbrev half_way : State → List ℤ
half_way s = pos (s.label 0) ∷ pos (s.label 1) ∷ pos (s.label 2) ∷ (s.excess 0).w ∷ (s.excess 1).w ∷ (s.excess 2).w
    ∷ (s.flow 0).w ∷ (s.flow 1).w ∷ (s.source 0).w ∷ (s.source 1).w ∷ (s.source 2).w ∷ (s.sink 1).w
    ∷ (amount_coming net s 1).w ∷ (amount_owed (s.operation 1)).w ∷ (amount_owed (s.operation 0)).w
    ∷ (steep_capacity net s 1).w ∷ pos s.steps ∷ []

-- excesses, and the amounts of the flow
abbrev at_the_end : State → List ℤ
at_the_end s = (s.source 2).w ∷ (s.excess 0).w ∷ (s.excess 1).w ∷ (s.excess 2).w ∷ (s.flow 0).w ∷ (s.flow 1).w
    ∷ (s.source 0).w ∷ (s.sink 1).w ∷ pos s.steps ∷ []

abbrev rows : List Row
rows =
    after 0 (ReadExcess ∷ ReadLabel ∷ ReadCapacity ∷ ReadLabel ∷ RaiseLabel ∷ []) (label 0) (pos 1 ∷ [])
    ∷ after 0 (ReadExcess ∷ ReadLabel ∷ ReadCapacity ∷ ReadLabel ∷ []) (label 0) (pos 1 ∷ [])
    ∷ after 2 (ReadExcess ∷ ReadLabel ∷ ReadCapacity ∷ ReadLabel ∷ RaiseLabel ∷ []) (label 2) (pos 1 ∷ [])
    ∷ after 2 (ReadExcess ∷ ReadLabel ∷ ReadCapacity ∷ ReadLabel ∷ GiveCapacity ∷ TakeExcess ∷ GiveExcess ∷ [])
    (flow 1 1) (pos 4 ∷ pos 4 ∷ [])
    ∷ after 1 (ReadExcess ∷ ReadCapacity ∷ ReadLabel ∷ ReadCapacity ∷ ReadCapacity ∷ ReadLabel ∷ RaiseLabel ∷ [])
    (label 1) (pos 1 ∷ [])
    ∷ after 1 (ReadExcess ∷ ReadCapacity ∷ ReadLabel ∷ ReadCapacity ∷ ReadCapacity ∷ ReadLabel ∷ TakeCapacity
    ∷ TakeExcess ∷ GiveExcess ∷ []) (λ s. (s.sink 1).w ∷ (s.excess 1).w ∷ []) (pos 1 ∷ pos 3 ∷ [])
    ∷ after 1 (ReadExcess ∷ ReadCapacity ∷ ReadCapacity ∷ ReadCapacity ∷ ReadLabel ∷ RaiseLabel ∷ []) (label 1)
    (pos 2 ∷ [])
    ∷ after 1 (ReadExcess ∷ ReadCapacity ∷ ReadCapacity ∷ ReadCapacity ∷ ReadLabel ∷ TakeCapacity ∷ TakeExcess
    ∷ GiveExcess ∷ []) (flow 1 2) (pos 1 ∷ pos 3 ∷ [])
    ∷ after 2 (ReadExcess ∷ ReadLabel ∷ ReadCapacity ∷ ReadLabel ∷ RaiseLabel ∷ []) (label 2) (pos 3 ∷ [])
    ∷ after 2 (ReadExcess ∷ ReadLabel ∷ ReadCapacity ∷ ReadLabel ∷ GiveCapacity ∷ TakeExcess ∷ GiveExcess ∷ [])
    (flow 1 1) (pos 4 ∷ pos 3 ∷ [])
    ∷ after 1 (ReadExcess ∷ ReadCapacity ∷ ReadCapacity ∷ ReadCapacity ∷ ReadLabel ∷ RaiseLabel ∷ []) (label 1)
    (pos 4 ∷ [])
    ∷ after 0 (GiveCapacity ∷ []) half_way
    (pos 1 ∷ pos 4 ∷ pos 3 ∷ pos 4 ∷ pos 3 ∷ pos 0 ∷ pos 4 ∷ pos 4 ∷ pos 4 ∷ pos 0 ∷ pos 4 ∷ pos 1 ∷ pos 4 ∷ pos 0
    ∷ pos 4 ∷ pos 4 ∷ pos 70 ∷ [])
    ∷ after 0 (TakeExcess ∷ GiveExcess ∷ []) (λ s. (s.excess 0).w ∷ (s.excess 1).w ∷ []) (pos 0 ∷ pos 7 ∷ [])
    ∷ after 1 (ReadExcess ∷ ReadCapacity ∷ ReadCapacity ∷ ReadLabel ∷ ReadCapacity ∷ ReadLabel ∷ TakeCapacity
    ∷ TakeExcess ∷ GiveExcess ∷ []) (flow 0 0) (pos 0 ∷ pos 4 ∷ [])
    ∷ after 0 (ReadExcess ∷ ReadLabel ∷ ReadCapacity ∷ ReadLabel ∷ RaiseLabel ∷ []) (label 0) (pos 5 ∷ [])
    ∷ after 0 (ReadExcess ∷ ReadLabel ∷ ReadCapacity ∷ ReadLabel ∷ GiveCapacity ∷ TakeExcess ∷ GiveExcess ∷ [])
    (flow 0 1) (pos 4 ∷ pos 7 ∷ [])
    ∷ after 1 (ReadExcess ∷ ReadCapacity ∷ ReadCapacity ∷ ReadLabel ∷ ReadCapacity ∷ ReadLabel ∷ TakeCapacity
    ∷ TakeExcess ∷ GiveExcess ∷ []) (flow 1 2) (pos 0 ∷ pos 4 ∷ [])
    ∷ after 1 (ReadExcess ∷ ReadCapacity ∷ ReadCapacity ∷ ReadLabel ∷ ReadCapacity ∷ RaiseLabel ∷ []) (label 1)
    (pos 6 ∷ [])
    ∷ after 1 (ReadExcess ∷ ReadCapacity ∷ ReadCapacity ∷ ReadLabel ∷ ReadCapacity ∷ TakeCapacity ∷ TakeExcess
    ∷ GiveExcess ∷ []) (flow 0 0) (pos 1 ∷ pos 3 ∷ [])
    ∷ after 0 (ReadExcess ∷ ReadLabel ∷ ReadCapacity ∷ ReadLabel ∷ RaiseLabel ∷ []) (label 0) (pos 6 ∷ [])
    ∷ after 0 (ReadExcess ∷ ReadLabel ∷ ReadCapacity ∷ ReadLabel ∷ TakeCapacity ∷ TakeExcess ∷ GiveExcess ∷ [])
    (λ s. (s.source 0).w ∷ []) (pos 1 ∷ [])
    ∷ after 2 (ReadExcess ∷ ReadLabel ∷ ReadCapacity ∷ ReadLabel ∷ RaiseLabel ∷ []) (label 2) (pos 6 ∷ [])
    ∷ after 2 (ReadExcess ∷ ReadLabel ∷ ReadCapacity ∷ ReadLabel ∷ TakeCapacity ∷ TakeExcess ∷ GiveExcess ∷ [])
    at_the_end (pos 0 ∷ pos 0 ∷ pos 0 ∷ pos 0 ∷ pos 1 ∷ pos 0 ∷ pos 1 ∷ pos 1 ∷ pos 140 ∷ [])
    ∷ []

abbrev watch : NetView → Option State → List Row → List (List ℤ)
watch over (Some s) (r ∷ rs) = elim (follow over s (map (λ k. record { block = r.block; kind = k }) r.kinds))
    [ None ↦ [] | Some t ↦ r.see t ∷ watch over (Some t) rs ]
watch over _ _ = []

as_worked_by_hand : watch net (Some (opening net)) rows ≡ map (λ r. r.says) rows
unfolding with_value_at arcs sum_on_way port_list
as_worked_by_hand = refl

-- ---- two predecessors with the same label
abbrev two_below : NetView
two_below = record { pairs = (0, 1) ∷ (0, 2) ∷ []; worths = whole (pos 4) ∷ whole (negsuc 2) ∷ whole (negsuc 2) ∷ [] }

-- the flows of both pairs, and the excesses of the two
abbrev both_below : State → List ℤ
both_below s = (s.flow 0).w ∷ (s.flow 1).w ∷ (s.excess 1).w ∷ (s.excess 2).w ∷ []

-- both stand at 0, so the block rises to 1, and its push goes to the first
abbrev tied_rows : List Row
tied_rows =
    after 0 (ReadExcess ∷ ReadLabel ∷ ReadLabel ∷ ReadCapacity ∷ ReadLabel ∷ RaiseLabel ∷ []) (label 0) (pos 1 ∷ [])
    ∷ after 0 (ReadExcess ∷ ReadLabel ∷ ReadLabel ∷ ReadCapacity ∷ ReadLabel ∷ GiveCapacity ∷ TakeExcess ∷ GiveExcess
    ∷ []) both_below (pos 4 ∷ pos 0 ∷ pos 4 ∷ pos 0 ∷ [])
    ∷ []

first_of_two_as_low : watch two_below (Some (opening two_below)) tied_rows ≡ map (λ r. r.says) tied_rows
unfolding with_value_at arcs sum_on_way port_list
first_of_two_as_low = refl
