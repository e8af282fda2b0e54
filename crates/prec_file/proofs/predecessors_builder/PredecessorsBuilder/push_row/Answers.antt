use Rattle.std.proofs.Common.{◌≡◌, ℕ, ◌+◌, ◌<◌, ◌≤◌, ◌++◌, ◌∷◌, [], List, All, length, map, refl, ap, sym, subst, ◌∙◌}
use Rattle.std.proofs.Common.{arith}
use Rattle.prec_file.specs.declared.limits.TheConstants.{MOST_PAIRS}
use Rattle.prec_file.specs.Prelude.{RowsView, IsOfBlock, IsRowAdded, pairs_by}
use Rattle.prec_file.proofs.SortedApart.{own_pairs}
use Rattle.prec_file.proofs.RowSteps.{pushed_told, pushed_rows}
use Rattle.prec_file.proofs.RowChecks.{row_own, row_length, row_seconds}
use Rattle.prec_file.proofs.predecessors_builder.PredecessorsBuilder.push_row.Goals as goal

pub push_block-requires-clause-own : goal.push_block-requires-clause-own
push_block-requires-clause-own c =
    let n = c.self.inside.blocks in
    let b = c.self.inside.next in
    let known : All (λ p. p < n) c.args.row.now = subst (λ (v : RowsView). All (λ p. p < v.blocks) c.args.row.now)
    (sym c.self.view_is) c.requires.known in
    let own : All (IsOfBlock n b) c.add_pairs.new.pairs.items = subst (λ (xs : List (ℕ × ℕ)). All (IsOfBlock n b) xs)
    (sym (c.in_ok-add_pairs.ensures
    ∙ ap (λ xs. xs ++ map (λ (p : ℕ). (b, p)) c.args.row.now) c.new-pairs.ensures.items))
    (row_own n b c.args.row.now known) in
    subst (λ (v : RowsView). All (IsOfBlock v.blocks v.next) c.add_pairs.new.pairs.items) c.self.view_is own

pub returns-then-not-row_rises : goal.returns-then-not-row_rises
returns-then-not-row_rises c =
    let added = c.in_ok-push_block.field-0.items in
    let listed : c.add_pairs.new.pairs.items ≡ map (λ p. (c.args.self.now.next, p)) c.args.row.now =
    c.in_ok-add_pairs.ensures ∙ ap (λ xs. xs ++ map (λ (p : ℕ). (c.self.inside.next, p)) c.args.row.now)
    c.new-pairs.ensures.items ∙ ap (λ (v : RowsView). map (λ (p : ℕ). (v.next, p)) c.args.row.now) c.self.view_is in (
      added,
      subst (λ (xs : List (ℕ × ℕ)). IsRowAdded c.args.self.now c.push_block.new.self xs added) listed
          c.in_ok-push_block.ensures,
    )

-- the lists as they were written
begun : (c : goal.After-self-1) → c.push_reserved.new.self.items ≡ c.self.inside.firsts.items ++ c.len-beyond.result
    ∷ []
begun c = c.push_reserved.ensures.items ∙ ap (λ xs. xs ++ c.len-beyond.result ∷ []) c.in_ok-reserve.ensures.items

listed : (c : goal.After-self-1) → c.extend_from_slice.new.self.items ≡ c.self.inside.predecessors.items ++ map
    (λ (q : ℕ × ℕ). q.1) (map (λ p. (c.self.inside.next, p)) c.args.row.now)
listed c = c.in_ok-extend_from_slice.ensures.items
    ∙ ap (λ xs. c.self.inside.predecessors.items ++ xs) (sym (row_seconds c.self.inside.next c.args.row.now))

few : (c : goal.After-self-1) → length (pairs_by c.self.inside.firsts.items c.self.inside.predecessors.items) + length
    (map {B = ℕ × ℕ} (λ p. (c.self.inside.next, p)) c.args.row.now) ≤ MOST_PAIRS
few c =
    let most : length (pairs_by c.self.inside.firsts.items c.self.inside.predecessors.items) + length c.args.row.now
    ≤ MOST_PAIRS = subst (λ (v : RowsView). length v.pairs + length c.args.row.now ≤ MOST_PAIRS)
    (sym c.self.view_is) c.requires.few in
    omega (arith, most, row_length c.self.inside.next c.args.row.now)

own : (c : goal.After-self-1) → All (IsOfBlock c.self.inside.blocks c.self.inside.next)
    (map (λ p. (c.self.inside.next, p)) c.args.row.now)
own c = row_own c.self.inside.blocks c.self.inside.next c.args.row.now
    (subst (λ (v : RowsView). All (λ p. p < v.blocks) c.args.row.now) (sym c.self.view_is) c.requires.known)

within : (c : goal.After-self-1) → c.self.inside.next < c.self.inside.blocks
within c = subst (λ (v : RowsView). v.next < v.blocks) (sym c.self.view_is) c.requires.next

counted : (c : goal.After-self-1) → c.len-beyond.result ≡ length c.extend_from_slice.new.self.items
counted c = omega (arith, c.extend_from_slice.new.self.ok, c.len-beyond.ensures)

pub invariant_of-self-2 : goal.invariant_of-self-2
invariant_of-self-2 c =
    let row = map {B = ℕ × ℕ} (λ p. (c.self.inside.next, p)) c.args.row.now in
    pushed_rows c.self.inside.blocks c.self.inside.next
    (pairs_by c.self.inside.firsts.items c.self.inside.predecessors.items) row c.self.inside.firsts.items
    c.self.inside.predecessors.items c.self.invariant (within c) (few c)
    (c.if-not-row_rises.ensures.rising refl) (c.if-not-row_rises.ensures.apart refl) (own c)
    c.push_reserved.new.self.items c.extend_from_slice.new.self.items c.len-beyond.result (begun c) (listed c)
    (counted c)

pub returns : goal.returns
returns c =
    let n = c.self.inside.blocks in
    let b = c.self.inside.next in
    let row = map {B = ℕ × ℕ} (λ p. (b, p)) c.args.row.now in
    let ps = pairs_by c.self.inside.firsts.items c.self.inside.predecessors.items in
    let rising = c.if-not-row_rises.ensures.rising refl in
    let apart = c.if-not-row_rises.ensures.apart refl in
    let told = pushed_told n b ps row c.self.inside.firsts.items c.self.inside.predecessors.items c.self.invariant
    (within c) (few c) rising apart (own c)
    c.push_reserved.new.self.items c.extend_from_slice.new.self.items c.len-beyond.result (begun c) (listed c)
    (counted c) in
    let rows = pushed_rows n b ps row c.self.inside.firsts.items c.self.inside.predecessors.items c.self.invariant
    (within c) (few c) rising apart (own c)
    c.push_reserved.new.self.items c.extend_from_slice.new.self.items c.len-beyond.result (begun c) (listed c)
    (counted c) in
    let new : RowsView = record {
      blocks = n;
      next = b + 1;
      pairs = pairs_by c.push_reserved.new.self.items c.extend_from_slice.new.self.items;
    } in
    let added : IsRowAdded (record { blocks = n; next = b; pairs = ps }) new row row = record {
      blocks = refl;
      next = refl;
      pairs = told;
      own = own_pairs row rising apart;
      fewer = omega arith;
      few =
          rows.few;
      rests = rows.rests;
    } in
    subst (λ (v : RowsView). (x : List (ℕ × ℕ))
    × IsRowAdded v new (map {B = ℕ × ℕ} (λ p. (v.next, p)) c.args.row.now) x) c.self.view_is (row, added)
