use Rattle.std.proofs.Common.{◌≡◌, ℕ, ◌<◌, length}
use Rattle.closure_net.specs.Network.{holds_of}
use Rattle.design_value.specs.Sums.{marked_in}
use Rattle.series_pits.proofs.part_pits.marks_of.Given as goal

abbrev pub invariant-loop-b : goal.invariant-loop-b
invariant-loop-b l = record {
  size : length l.marks.items ≡ l.b;
  are : (c : ℕ) → c < l.b → marked_in l.marks.items c ≡ holds_of l.pit c;
}
