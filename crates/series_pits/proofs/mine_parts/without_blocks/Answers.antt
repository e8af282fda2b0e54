use Rattle.fixed_worth.proofs.Common.{◌≡◌, ◌∙◌, ℕ, ◌+◌, ◌<◌, List, All, get_or, sym, subst, arith, get_or_read}
use Rattle.closure_net.specs.Prelude.{holds_of, IsAscending, IsBest}
use Rattle.shells.specs.Prelude.{priced_count, mine_at}
use Rattle.series_pits.specs.Prelude.{LiesBetweenLists, PartSumLeaves}
use Rattle.series_pits.proofs.Parting.{fewer_factors, low_best, part_of}
use Rattle.series_pits.proofs.Summing.{if_none_with, if_some_with, only_leaves}
use Rattle.series_pits.proofs.mine_parts.without_blocks.Goals as goal

pub returns-clause-halved : goal.returns-clause-halved
returns-clause-halved c =
    let pairs = c.args.mine.now.predecessors.pairs in
    let prices = c.args.mine.now.prices in
    let factors = c.args.mine.now.factors.items in
    let from = c.args.part.now.from in
    let to = c.args.part.now.to in
    let place = c.args.place in
    let low = c.args.part.now.low.items in
    let kept = c.args.part.now.kept.items in
    let lies = c.requires.part in
    let first = c.requires.first in
    let last = c.requires.last in
    let same : c.in_ok-blocks.blocks.items ≡ low = c.in_ok-blocks.ensures.items ∙ c.as_slice.ensures.value in
    let is_k : c.index.result.now ≡ get_or factors place 0 = get_or_read factors place c.index.result.now
    (omega (arith, last, lies.inside)) c.index.ensures 0 in
    let empty = subst (λ (xs : List ℕ). LiesBetweenLists pairs prices factors from to low xs) c.requires.none lies in
    let best = low_best pairs prices factors from to place low c.requires.priced empty first last in
    let here = subst (λ (xs : List ℕ). IsBest (mine_at pairs prices (get_or factors place 0)) (holds_of xs))
    (sym same) best in
    let found = subst (λ f. IsBest (mine_at pairs prices f) (holds_of c.in_ok-blocks.blocks.items)) (sym is_k) here in
    record {
      found = if_some_with c.best_with-best.result (λ x g. g pairs found) c.best_with-best.ensures.best;
      lower = part_of pairs prices factors c.in_ok-lower.lower from place low kept c.in_ok-lower.ensures
          (fewer_factors pairs prices factors from to from place low kept (omega arith) (omega (arith, last)) lies);
      higher = part_of pairs prices factors c.in_ok-higher.higher (place + 1) to low kept c.in_ok-higher.ensures
          (fewer_factors pairs prices factors from to (place + 1) to low kept (omega (arith, first))
          (omega arith) lies);
    }

pub returns-clause-solved : goal.returns-clause-solved
returns-clause-solved c =
    let prices = c.args.mine.now.prices in
    let factors = c.args.mine.now.factors.items in
    let place = c.args.place in
    let low = c.args.part.now.low.items in
    let lies = c.requires.part in
    let blocks = c.in_ok-blocks.blocks.items in
    let k = c.index.result.now in
    let same : blocks ≡ low = c.in_ok-blocks.ensures.items ∙ c.as_slice.ensures.value in
    let is_k : k ≡ get_or factors place 0 = get_or_read factors place k (omega (arith, c.requires.last, lies.inside))
    c.index.ensures 0 in
    let up = subst IsAscending (sym same) lies.low_ascends in
    let priced = subst (All (λ b. b < priced_count prices)) (sym same) lies.low_priced in
    if_none_with c.best_with-best.result
    (λ h. subst (λ f. PartSumLeaves prices f low) is_k
    (subst (λ (xs : List ℕ). PartSumLeaves prices k xs) same (only_leaves prices k blocks up priced h)))
    c.best_with-best.ensures.none
