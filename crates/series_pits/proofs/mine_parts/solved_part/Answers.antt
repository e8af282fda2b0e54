use Rattle.fixed_worth.proofs.Common.{◌≡◌, ℕ, ◌<◌, All, List, length, get_or, Option, IfSome, ap, sym, subst, arith}
use Rattle.fixed_worth.proofs.Common.{get_or_read}
use Rattle.shells.specs.Prices.{priced_count}
use Rattle.check_engines.proofs.Counted.{ascending_short}
use Rattle.series_pits.specs.declared.mine_parts.Halved.{Halved}
use Rattle.series_pits.specs.Prelude.{IsBestAmong, AreHalved}
use Rattle.series_pits.proofs.mine_parts.solved_part.Goals as goal

pub pit_among-requires-clause-size : goal.pit_among-requires-clause-size
pit_among-requires-clause-size c =
    let part = c.requires.part in
    let short = ascending_short c.args.part.now.kept.items (priced_count c.args.mine.now.prices)
    part.are_kept.ascending part.are_kept.below in
    let same = ap (λ (xs : List ℕ). length xs) c.as_slice-kept.ensures.value in
    omega (arith, short, same, c.args.mine.now.sizes)

pub pit_among-requires-clause-priced : goal.pit_among-requires-clause-priced
pit_among-requires-clause-priced c = subst (All (λ b. b < priced_count c.args.mine.now.prices))
    (sym c.as_slice-kept.ensures.value) c.requires.part.are_kept.below

pub by_pit-requires-clause-few : goal.by_pit-requires-clause-few
by_pit-requires-clause-few c =
    let part = c.requires.part in
    omega (
      arith,
      ascending_short c.args.part.now.kept.items (priced_count c.args.mine.now.prices)
          part.are_kept.ascending part.are_kept.below,
      c.requires.priced.few,
    )

pub returns-clause-halved : goal.returns-clause-halved
returns-clause-halved c =
    let pairs = c.args.mine.now.predecessors.pairs in
    let prices = c.args.mine.now.prices in
    let factors = c.args.mine.now.factors.items in
    let kept = c.args.part.now.kept.items in
    let k = c.index-factor.result.now in
    let small = subst (λ (o : Option (List ℕ)). IfSome o (IsBestAmong pairs prices c.as_slice-kept.result.now k))
    c.in-Some.is c.in_ok-small.ensures in
    let best = subst (λ (xs : List ℕ). IsBestAmong pairs prices xs k c.in-Some.small) c.as_slice-kept.ensures.value
    small in
    let part = c.requires.part in
    let is_k : k ≡ get_or factors c.args.place 0 = get_or_read factors c.args.place k
    (omega (arith, c.requires.last, part.inside)) c.index-factor.ensures 0 in
    let here = subst (λ f. IsBestAmong pairs prices kept f c.in-Some.small) is_k best in
    subst (λ (o : Option Halved). IfSome o (AreHalved pairs prices factors)) c.in-Some-2.is
    (c.in_ok-found.ensures pairs c.requires.priced c.requires.part here)
