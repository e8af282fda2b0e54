use Rattle.std.proofs.Common.{ℕ, ◌+◌, ◌≤◌, ◌++◌, List, take}
use Rattle.design_value.specs.Prelude.{AreOpen, marked_in}
use Rattle.design_value.proofs.open_pairs.pass_row.Given as goal

abbrev pub invariant-loop-pair : goal.invariant-loop-pair
invariant-loop-pair l = record {
  leads : (ps : List (ℕ × ℕ)) → AreOpen (marked_in l.marks) ps l.initial.leading.count l.initial.leading.first.items
      → AreOpen (marked_in l.marks) (ps ++ take l.pair-index l.row) l.leading.count l.leading.first.items;
  few : l.leading.count ≤ l.initial.leading.count + l.pair-index;
}
