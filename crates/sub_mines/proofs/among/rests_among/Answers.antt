use Rattle.fixed_worth.proofs.Common.{◌≡◌, length, ap, subst, ◌∙◌, IfOk-weaker}
use Rattle.prec_file.specs.Rests.{RestsView, ArePairsOf}
use Rattle.sub_mines.specs.Renumbered.{IsPartPairs}
use Rattle.sub_mines.proofs.Rows.{rows_known, rows_are_part}
use Rattle.sub_mines.proofs.among.rests_among.Goals as goal

pub of-requires-clause-known : goal.of-requires-clause-known
of-requires-clause-known c = rows_known c.args.predecessors.now.pairs c.args.kept.now c.in_ok-pairs.pairs.items
    c.in_ok-pairs.ensures.0

pub returns : goal.returns
returns c =
    let kept = c.args.kept.now in
    let v = c.args.predecessors.now in
    let found = c.in_ok-pairs.pairs.items in
    let listed = c.of.ensures in
    IfOk-weaker c.into_rests.result (λ r. (r.blocks ≡ c.of.result.blocks) × ArePairsOf c.of.result.pairs r.pairs)
    (λ r. (r.blocks ≡ length kept) × IsPartPairs kept v.pairs r.pairs)
    (λ r h. (
      h.0 ∙ ap (λ (x : RestsView). x.blocks) listed,
      rows_are_part v.pairs kept found r.pairs c.len.ensures.all.apart c.in_ok-pairs.ensures.0
          (subst (λ (x : RestsView). ArePairsOf x.pairs r.pairs) listed h.1),
    ))
    c.into_rests.ensures
