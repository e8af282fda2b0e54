-- What the sums of a room say of the flow and the pit of the lines, once these are all read.
use Rattle.fixed_worth.proofs.Common.{◌≡◌, ℕ, Bool, List, length, sym, ◌∙◌, arith, ◌↔◌, IsTrue, common_steps}
use Rattle.ordered_group.specs.Prelude.{zero_amount, amount_at}
use Rattle.prec_file.specs.Rests.{IsFirstNot}
use Rattle.closure_net.specs.Prelude.{NetView, holds_of, IsTight}
use Rattle.certificate_file.specs.declared.body_lines.BodyLine.{BodyLine}
use Rattle.certificate_file.specs.Certificate.{pit_of}
use Rattle.check_pit.specs.Prelude.{flow_of, LinesTell, RoomView, AreSumsOf, IsFirstUnbalanced, TellsTight}

-- ---- all lines

-- the pit is tight by the flow exactly where it is worth what is left
pub tight_flow : (net : NetView) (ls : List BodyLine) (room : RoomView) → LinesTell net ls → AreSumsOf net ls room
    → (room.worth ≡ room.left) ↔ IsTight net (flow_of (length net.worths) net.pairs ls) (holds_of (pit_of ls))
tight_flow net ls room t s = (λ e. t.tight.1 (sym s.worth ∙ e ∙ s.left), λ h. s.worth ∙ t.tight.0 h ∙ sym s.left)

pub first_told : (net : NetView) (room : RoomView) (b : ℕ) → IsFirstNot (λ k. amount_at room.balances k ≡ zero_amount)
    (length net.worths) b → IsFirstUnbalanced net room b
first_told net room b h = λ ls t s. grind (arith, common_steps)

pub tight_told : (net : NetView) (room : RoomView) (r : Bool) → IsTrue r ↔ (room.worth ≡ room.left)
    → TellsTight net room r
tight_told net room r e = λ ls t s. let q = tight_flow net ls room t s in (λ h. q.0 (e.0 h), λ h. e.1 (q.1 h))
