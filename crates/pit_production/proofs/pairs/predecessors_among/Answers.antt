use Rattle.fixed_worth.proofs.Common.{◌≡◌, length, ap, subst, ◌∙◌, IfOk-weaker}
use Rattle.prec_file.specs.Rests.{RestsView, ArePairsOf}
use Rattle.sub_mines.specs.Renumbered.{IsPartPairs}
use Rattle.pit_production.proofs.Relisted.{part_again}
use Rattle.pit_production.proofs.pairs.predecessors_among.Goals as goal

pub returns : goal.returns
returns c =
    let kept = c.args.kept.now in
    let v = c.args.predecessors.now in
    let rests = c.in_ok-rests.rests in
    let of = c.of.ensures in
    IfOk-weaker c.into_predecessors.result (λ r. (r.blocks ≡ c.of.result.blocks)
    × ArePairsOf c.of.result.pairs r.pairs) (λ r. (r.blocks ≡ length kept) × IsPartPairs kept v.pairs r.pairs)
    (λ r h. (
      h.0 ∙ ap (λ (x : RestsView). x.blocks) of ∙ c.len-blocks.ensures.is ∙ c.in_ok-rests.ensures.0,
      part_again kept v.pairs rests.pairs c.in_ok-pairs.pairs.items r.pairs c.in_ok-rests.ensures.1
          c.len-blocks.ensures.all.apart c.in_ok-pairs.ensures
          (subst (λ (x : RestsView). ArePairsOf x.pairs r.pairs) of h.1),
    ))
    c.into_predecessors.ensures
