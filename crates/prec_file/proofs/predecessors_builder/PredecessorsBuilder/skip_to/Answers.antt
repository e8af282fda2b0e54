use Rattle.std.proofs.Common.{◌≡◌, ◌≤◌, length, get_or, ap, sym, subst, ◌∙◌, arith}
use Rattle.prec_file.specs.Prelude.{RowsView, pairs_by}
use Rattle.prec_file.proofs.RowChecks.{skipped_told, skipped_rows}
use Rattle.prec_file.proofs.predecessors_builder.PredecessorsBuilder.skip_to.Goals as goal

pub invariant_of-self-2 : goal.invariant_of-self-2
invariant_of-self-2 c =
    let same = ap length c.in_ok-reserve.ensures.items in
    skipped_rows c.self.inside.blocks c.self.inside.next c.args.block c.len.result c.self.inside.firsts.items
    c.fill.new.list.items c.self.inside.predecessors.items c.self.invariant
    (subst (λ (v : RowsView). v.next ≤ c.args.block) (sym c.self.view_is) c.requires.beyond)
    (subst (λ (v : RowsView). c.args.block ≤ v.blocks) (sym c.self.view_is) c.requires.within)
    (omega (arith, c.self.inside.predecessors.ok, c.len.ensures)) c.fill.ensures.size
    (λ i h. c.fill.ensures.kept i (omega (arith, same)) ∙ ap (λ xs. get_or xs i 0) c.in_ok-reserve.ensures.items)
    (λ i h k. c.fill.ensures.filled i (omega (arith, same)) k)

pub returns : goal.returns
returns c =
    let b = c.args.block in
    let n = c.self.inside.blocks in
    let l : c.self.inside.next ≤ b = subst (λ (v : RowsView). v.next ≤ b) (sym c.self.view_is) c.requires.beyond in
    let m : b ≤ n = subst (λ (v : RowsView). b ≤ v.blocks) (sym c.self.view_is) c.requires.within in
    let count : c.len.result ≡ length c.self.inside.predecessors.items = omega
    (arith, c.self.inside.predecessors.ok, c.len.ensures) in
    let put = c.fill.ensures in
    let same = ap length c.in_ok-reserve.ensures.items in
    let told = skipped_told n c.self.inside.next b c.len.result c.self.inside.firsts.items c.fill.new.list.items
    c.self.inside.predecessors.items c.self.invariant l m count put.size
    (λ i h. put.kept i (omega (arith, same)) ∙ ap (λ xs. get_or xs i 0) c.in_ok-reserve.ensures.items)
    (λ i h k. put.filled i (omega (arith, same)) k) in
    let first : ◌≡◌ {A = RowsView}
    (record { blocks = n; next = b; pairs = pairs_by c.fill.new.list.items c.self.inside.predecessors.items })
    (record {
      blocks = n;
      next = b;
      pairs = pairs_by c.self.inside.firsts.items c.self.inside.predecessors.items;
    }) =
    λ i. record { blocks = n; next = b; pairs = told i } in
    let second : ◌≡◌ {A = RowsView}
    (record {
      blocks = n;
      next = b;
      pairs = pairs_by c.self.inside.firsts.items c.self.inside.predecessors.items;
    }) (record { blocks = c.args.self.now.blocks; next = b; pairs = c.args.self.now.pairs }) =
    λ i. record { blocks = (c.self.view_is i).blocks; next = b; pairs = (c.self.view_is i).pairs } in
    first ∙ second
