use Rattle.std.proofs.Common.{ℕ, All, length, sym, subst}
use Rattle.prec_file.specs.Prelude.{IsKnown, to_at, IsStarts}
use Rattle.prec_file.proofs.Sorting.{known_predecessors}
use Rattle.prec_file.proofs.Order.{predecessors_moved, filled_moved}
use Rattle.prec_file.proofs.rests.with_index.Goals as goal

pub starts_of-requires-clause-known : goal.starts_of-requires-clause-known
starts_of-requires-clause-known c =
    let ps = c.args.predecessors.pairs in
    let P : ℕ → Type 0 = λ n. All (IsKnown n) ps in
    known_predecessors c.len-n.result ps c.of_all.result.now c.of_all.ensures
    (subst P (sym c.len-n.ensures.is) c.len-n.ensures.all.known)

pub filled_by-requires-clause-known : goal.filled_by-requires-clause-known
filled_by-requires-clause-known c =
    let ps = c.args.predecessors.pairs in
    let P : ℕ → Type 0 = λ n. All (IsKnown n) ps in
    known_predecessors c.len-n.result ps c.of_all-2.result.now c.of_all-2.ensures
    (subst P (sym c.len-n.ensures.is) c.len-n.ensures.all.known)

pub invariant_of-result : goal.invariant_of-result
invariant_of-result c =
    let ps = c.args.predecessors.pairs in
    let starts = c.in_ok-starts.starts.items in
    let P : ℕ → Type 0 = λ n. IsStarts (to_at ps) (length ps) n starts in
    record {
      blocks = c.in_ok-blocks.ensures;
      starts = subst P c.len-n.ensures.is
          (predecessors_moved c.of_all.result.now ps c.len-n.result starts c.of_all.ensures c.in_ok-starts.ensures);
      filled = filled_moved c.of_all-2.result.now ps c.in_ok-filled.filled.items c.of_all-2.ensures
          c.in_ok-filled.ensures;
    }
