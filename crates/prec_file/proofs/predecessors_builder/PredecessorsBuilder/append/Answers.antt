use Rattle.fixed_worth.proofs.Common.{◌≡◌, ℕ, ◌+◌, ◌<◌, ◌≤◌, ◌++◌, List, drop, get_or, length, map, refl, ap, sym}
use Rattle.fixed_worth.proofs.Common.{subst, ◌∙◌, arith}
use Rattle.prec_file.specs.declared.limits.TheConstants.{MOST_PAIRS}
use Rattle.prec_file.specs.Prelude.{AreRows, AreRowsAdded, RowsView, pairs_by}
use Rattle.prec_file.proofs.RowSteps.{rows_length}
use Rattle.prec_file.proofs.RowsAdded.{added_rows, begun_few}
use Rattle.prec_file.proofs.predecessors_builder.PredecessorsBuilder.append.Goals as goal

pub put_raised-requires-clause-small : goal.put_raised-requires-clause-small
put_raised-requires-clause-small c = λ k d l.
    let firsts = c.other.inside.firsts.items in
    let numbers : c.split_at.result.1.now ≡ drop (c.self.inside.next + 1) firsts = c.split_at.ensures.back
    ∙ ap (drop (c.self.inside.next + 1)) c.deref.ensures.value in
    subst (λ (xs : List ℕ). k < length xs → get_or xs k d ≤ MOST_PAIRS) (sym numbers)
    (begun_few c.other.inside.blocks c.other.inside.next (pairs_by firsts c.other.inside.predecessors.items) firsts
    c.other.inside.predecessors.items c.other.invariant (c.self.inside.next + 1) k d) l

-- the rows of both, as they are held
both : (c : goal.After-drop-other-inside-3)
    → (pairs_by c.put_raised.new.list.items c.extend_from_slice.new.self.items ≡ pairs_by c.self.inside.firsts.items
    c.self.inside.predecessors.items ++ pairs_by c.other.inside.firsts.items c.other.inside.predecessors.items)
    × AreRows c.self.inside.blocks c.other.inside.next
    (pairs_by c.put_raised.new.list.items c.extend_from_slice.new.self.items) c.put_raised.new.list.items
    c.extend_from_slice.new.self.items
both c =
    let n = c.self.inside.blocks in
    let firsts = c.self.inside.firsts.items in
    let predecessors = c.self.inside.predecessors.items in
    let begun = c.other.inside.firsts.items in
    let listed = c.other.inside.predecessors.items in
    let same : c.other.inside.blocks ≡ n = omega (arith, c.if-other-self.false) in
    let other : AreRows n c.other.inside.next (pairs_by begun listed) begun listed = subst
    (λ (x : ℕ). AreRows x c.other.inside.next (pairs_by begun listed) begun listed) same c.other.invariant in
    let before : c.len-before.result ≡ length predecessors = omega
    (arith, c.self.inside.predecessors.ok, c.len-before.ensures) in
    let more : c.len.result ≡ length listed = omega (arith, c.other.inside.predecessors.ok, c.len.ensures) in
    let found : c.index.result.now ≡ get_or begun c.self.inside.next 0 = subst
    (λ (x : ℕ). c.index.result.now ≡ get_or begun c.self.inside.next x) c.if-index-ne0.false c.index.ensures in
    let few : length (pairs_by firsts predecessors) + length (pairs_by begun listed) ≤ MOST_PAIRS = omega (
      arith,
      c.if-before-len-gt-MOST_PAIRS.false,
      before,
      more,
      rows_length n c.self.inside.next
          (pairs_by firsts predecessors) firsts predecessors c.self.invariant,
      rows_length n c.other.inside.next
          (pairs_by begun listed) begun listed other,
    ) in
    added_rows n c.self.inside.next c.other.inside.next (pairs_by firsts predecessors) (pairs_by begun listed) firsts
    predecessors begun listed c.self.invariant other
    (omega (arith, c.if-other-self-2.false)) (sym found ∙ c.if-index-ne0.false) few
    c.len-before.result c.split_at.result.1.now c.put_raised.new.list.items c.extend_from_slice.new.self.items before
    (c.split_at.ensures.back ∙ ap (drop (c.self.inside.next + 1)) c.deref.ensures.value)
    (c.put_raised.ensures ∙ ap (λ xs. xs ++ map (λ k. c.len-before.result + k) c.split_at.result.1.now)
    c.in-Ok.ensures.items)
    (c.in-Ok-extend_from_slice.ensures.items ∙ ap (λ xs. predecessors ++ xs) c.deref-2.ensures.value)

pub invariant_of-self-2 : goal.invariant_of-self-2
invariant_of-self-2 c = (both c).1

pub returns : goal.returns
returns c = λ t.
    let rows = both c in
    let old : RowsView = record {
      blocks = c.self.inside.blocks;
      next = c.self.inside.next;
      pairs = pairs_by c.self.inside.firsts.items
          c.self.inside.predecessors.items;
    } in
    let other : RowsView = record {
      blocks = c.other.inside.blocks;
      next = c.other.inside.next;
      pairs = pairs_by c.other.inside.firsts.items
          c.other.inside.predecessors.items;
    } in
    let new : RowsView = record {
      blocks = c.self.inside.blocks;
      next = c.other.inside.next;
      pairs = pairs_by c.put_raised.new.list.items
          c.extend_from_slice.new.self.items;
    } in
    let inner : AreRowsAdded old other new = record {
      blocks = refl;
      next = refl;
      rises = omega (arith, c.if-other-self-2.false);
      pairs = rows.0;
      rests =
          rows.1.rests;
    } in
    subst (λ (v : RowsView). AreRowsAdded v c.args.other new) c.self.view_is
    (subst (λ (v : RowsView). AreRowsAdded old v new) c.other.view_is inner)
