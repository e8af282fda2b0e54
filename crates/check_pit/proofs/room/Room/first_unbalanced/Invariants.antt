use Rattle.std.proofs.Common.{◌≡◌, ℕ, ◌<◌}
use Rattle.ordered_group.specs.Prelude.{zero_amount, amount_at}
use Rattle.check_pit.proofs.room.Room.first_unbalanced.Given as goal

abbrev pub invariant-loop-b : goal.invariant-loop-b
invariant-loop-b g l = (k : ℕ) → k < l.b → amount_at l.fn.self.balances k ≡ zero_amount
