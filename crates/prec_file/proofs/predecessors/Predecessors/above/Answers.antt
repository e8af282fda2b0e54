use Rattle.fixed_worth.proofs.Common.{ℕ, ◌+◌, ◌<◌, length, arith, ap, ◌∙◌, slice_range, length-map}
use Rattle.prec_file.specs.Prelude.{above_of, pairs_by}
use Rattle.prec_file.proofs.Order.{starts_rise, above_is, at_zero}
use Rattle.prec_file.proofs.predecessors.Predecessors.above.Goals as goal

pub part-requires : goal.part-requires
part-requires c =
    let ps = pairs_by c.self.inside.firsts.items c.self.inside.predecessors.items in
    let r = starts_rise _ (length ps) _ _ _ _ _ c.self.invariant.firsts
    (omega (arith, c.requires, ap (λ v. v.blocks) c.self.view_is)) c.index-from.ensures c.index-to.ensures in
    record {
      rises = r.0;
      inside = omega (
        arith,
        r.1,
        ap length c.deref.ensures.value ∙ ap length c.self.invariant.predecessors
            ∙ length-map ps (λ (p : ℕ × ℕ). p.1),
      );
    }

pub returns : goal.returns
returns c =
    let ps = pairs_by c.self.inside.firsts.items c.self.inside.predecessors.items in
    let firsts = c.self.invariant.firsts in
    let known : c.args.b < c.self.inside.blocks = omega (arith, c.requires, ap (λ v. v.blocks) c.self.view_is) in
    c.part.ensures
    ∙ ap (λ xs. slice_range xs c.index-from.result.now c.index-to.result.now) c.deref.ensures.value
    ∙ above_is ps c.self.invariant.rests.rising c.self.inside.blocks c.args.b _ _ c.self.inside.firsts.items
    c.self.inside.predecessors.items firsts c.self.invariant.predecessors known
    (at_zero c.self.inside.blocks c.args.b _ c.self.inside.firsts.items firsts.size (omega arith) c.index-from.ensures)
    (at_zero c.self.inside.blocks (c.args.b + 1) _ c.self.inside.firsts.items firsts.size
    (omega arith) c.index-to.ensures)
    ∙ ap (λ v. above_of v.pairs c.args.b) c.self.view_is
