use Rattle.std.proofs.Common.{◌≡◌, ℕ, ◌<◌, IsTrue}
use Rattle.ordered_group.specs.Prelude.{plus, FitsPair, total, where_so, amount_at}
use Rattle.closure_net.specs.Network.{holds_of}
use Rattle.check_pit.proofs.sums.pit_worth.Given as goal

abbrev pub invariant-loop-b : goal.invariant-loop-b
invariant-loop-b g l = record {
  so_far : g.G.OrderedGroup.parts_of l.sum ≡ total (λ b. where_so (holds_of l.fn.pit b) (amount_at l.fn.net.worths b))
      l.b;
  fits : (k : ℕ) → k < l.b → IsTrue (holds_of l.fn.pit k)
      → FitsPair (plus (total (λ b. where_so (holds_of l.fn.pit b) (amount_at l.fn.net.worths b)) k)
      (amount_at l.fn.net.worths k));
}
