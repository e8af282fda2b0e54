-- Nothing is lost: all that the source gave at the opening stands as excess, is carried by a push, or has arrived.
use Rattle.std.specs.Prelude.{◌≡◌, ◌↔◌, ℕ, ◌<◌, List, length, All}
use Rattle.ordered_group.specs.Prelude.{Amount, zero_amount, plus, AtMost, positive, total, amount_at}
use Rattle.prec_file.specs.Rests.{IsKnown}
use Rattle.closure_net.specs.Network.{NetView}
use Rattle.machine_law.specs.declared.events.Event.{Event}
use Rattle.machine_law.specs.declared.operations.Operation.{Operation}
use Rattle.machine_law.specs.declared.operations.Operation.TheVariants.{GiveDue}
use Rattle.machine_law.specs.States.{State, opening, IsQuiet}
use Rattle.machine_law.specs.Steps.{Run}

-- what the source gives at the opening, over all blocks
unfoldable pub all_given : NetView → Amount
all_given net = total (λ b. positive (amount_at net.worths b)) (length net.worths)

-- what stands as excess, over all blocks
unfoldable pub standing_excess : NetView → (ℕ → Amount) → Amount
standing_excess net excess = total excess (length net.worths)

-- what an operation has taken out of an excess and not yet given
abbrev pub amount_carried : Operation Amount → Amount
amount_carried (GiveDue d port) = d
amount_carried _ = zero_amount

-- what the operations of all blocks have taken out of an excess and not yet given
unfoldable pub amount_aloft : NetView → (ℕ → Operation Amount) → Amount
amount_aloft net operation = total (λ b. amount_carried (operation b)) (length net.worths)

-- nothing is lost
abbrev pub IsConserved : NetView → State → Type 0
IsConserved net s = plus (plus (standing_excess net s.excess) (amount_aloft net s.operation))
    (plus s.at_source s.at_sink) ≡ all_given net

-- So no excess and no arrival is more than that, and all of it has arrived exactly when the state is quiet.
pub record IsWhole (net : NetView) (s : State) : Type 0 where
  pub conserved : IsConserved net s
  pub excess_most : (b : ℕ) → b < length net.worths → AtMost (s.excess b) (all_given net)
  pub source_most : AtMost s.at_source (all_given net)
  pub sink_most : AtMost s.at_sink (all_given net)
  pub arrived : (plus s.at_source s.at_sink ≡ all_given net) ↔ IsQuiet net s

-- after every run, in a net whose pairs are of its blocks
abbrev pub RunsConserve : Type 0
RunsConserve = (net : NetView) (es : List Event) (t : State) → All (IsKnown (length net.worths)) net.pairs
    → Run net (opening net) es t → IsWhole net t
