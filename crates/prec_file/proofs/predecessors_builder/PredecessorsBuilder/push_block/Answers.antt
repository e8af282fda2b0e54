use Rattle.std.proofs.Common.{◌≡◌, ◌+◌, ◌++◌, ◌∷◌, [], ◌<◌, ◌≤◌, All, length, map, refl, sym, ap, subst, ◌∙◌, arith}
use Rattle.prec_file.specs.declared.limits.TheConstants.{MOST_PAIRS}
use Rattle.prec_file.specs.Prelude.{RowsView, IsOfBlock, IsRowAdded, pairs_by}
use Rattle.prec_file.proofs.RowSteps.{pushed_told, pushed_rows, own_kept}
use Rattle.prec_file.proofs.predecessors_builder.PredecessorsBuilder.push_block.Goals as goal

pub invariant_of-self-2 : goal.invariant_of-self-2
invariant_of-self-2 c =
    let next = c.self.inside.next in
    pushed_rows _ _ _ _ _ _ c.self.invariant
    (subst (λ (v : RowsView). v.next < v.blocks) (sym c.self.view_is) c.requires.next)
    (omega (
      arith,
      subst (λ (v : RowsView). length v.pairs + length c.args.pairs.items ≤ MOST_PAIRS)
          (sym c.self.view_is) c.requires.few,
      c.sorted_apart-added.ensures.fewer,
    ))
    c.sorted_apart-added.ensures.same.rising c.sorted_apart-added.ensures.apart
    (own_kept _ _ _ _ c.sorted_apart-added.ensures.same
    (subst (λ (v : RowsView). All (IsOfBlock v.blocks v.next) c.args.pairs.items) (sym c.self.view_is)
    c.requires.own))
    c.push_reserved.new.self.items c.append.new.list.items c.len.result
    (c.push_reserved.ensures.items ∙ ap (λ xs. xs ++ c.len.result ∷ []) c.in_ok-reserve.ensures.items)
    (c.in_ok-append.ensures.added
    ∙ ap (λ xs. c.self.inside.predecessors.items ++ map (λ p. p.1) xs) c.deref.ensures.value)
    (omega (arith, c.append.new.list.ok, c.len.ensures))

pub returns : goal.returns
returns c =
    let n = c.self.inside.blocks in
    let next = c.self.inside.next in
    let firsts = c.self.inside.firsts.items in
    let predecessors = c.self.inside.predecessors.items in
    let ps = pairs_by firsts predecessors in
    let row = c.sorted_apart-added.result.items in
    let begun = c.push_reserved.new.self.items in
    let listed = c.append.new.list.items in
    let within : next < n = subst (λ (v : RowsView). v.next < v.blocks) (sym c.self.view_is) c.requires.next in
    let few : length ps + length c.args.pairs.items ≤ MOST_PAIRS = subst
    (λ (v : RowsView). length v.pairs + length c.args.pairs.items ≤ MOST_PAIRS) (sym c.self.view_is)
    c.requires.few in
    let all_own : All (IsOfBlock n next) c.args.pairs.items = subst
    (λ (v : RowsView). All (IsOfBlock v.blocks v.next) c.args.pairs.items) (sym c.self.view_is) c.requires.own in
    let same = c.sorted_apart-added.ensures.same in
    let f = c.push_reserved.ensures.items ∙ ap (λ xs. xs ++ c.len.result ∷ []) c.in_ok-reserve.ensures.items in
    let p = c.in_ok-append.ensures.added ∙ ap (λ xs. predecessors ++ map (λ p. p.1) xs) c.deref.ensures.value in
    let count : c.len.result ≡ length listed = omega (arith, c.append.new.list.ok, c.len.ensures) in
    let own = own_kept n next c.args.pairs.items row same all_own in
    let few_row : length ps + length row ≤ MOST_PAIRS = omega (arith, few, c.sorted_apart-added.ensures.fewer) in
    let told = pushed_told n next ps row firsts predecessors c.self.invariant within few_row same.rising
    c.sorted_apart-added.ensures.apart own begun listed c.len.result f p count in
    let rows = pushed_rows n next ps row firsts predecessors c.self.invariant within few_row same.rising
    c.sorted_apart-added.ensures.apart own begun listed c.len.result f p count in
    let new : RowsView = record { blocks = n; next = next + 1; pairs = pairs_by begun listed } in
    subst (λ (v : RowsView). IsRowAdded v new c.args.pairs.items row) c.self.view_is
    (record {
      blocks = refl;
      next = refl;
      pairs = told;
      own = same;
      fewer = c.sorted_apart-added.ensures.fewer;
      few = rows.few;
      rests = rows.rests;
    })
