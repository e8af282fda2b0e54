use Rattle.std.proofs.Common.{◌≡◌, ℕ, ◌<◌, length, map}
use Rattle.ordered_group.specs.Prelude.{zero_amount, amount_at}
use Rattle.check_pit.proofs.room.Room.clear_balances.Given as goal

abbrev pub invariant-loop-b : goal.invariant-loop-b
invariant-loop-b g l = record {
  size : length l.self-inside.balances.items ≡ length l.fn.self.balances;
  marks : length l.self-inside.marks.items ≡ length l.self-inside.balances.items;
  zero : (b : ℕ) → b < l.b → amount_at (map g.G.OrderedGroup.parts_of l.self-inside.balances.items) b ≡ zero_amount;
  space : l.self-inside.pit.space ≡ l.fn.self.space;
  pit : l.self-inside.pit.is_pit ≡ l.fn.self.is_pit;
}
