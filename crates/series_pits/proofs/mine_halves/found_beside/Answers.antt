use Rattle.fixed_worth.proofs.Common.{◌∙◌, List, [], ◌∷◌, ◌++◌, All, length, sym, ap, subst, arith, All-append}
use Rattle.prec_file.specs.Rests.{numbers_passing}
use Rattle.shells.specs.Prices.{priced_count}
use Rattle.sub_mines.specs.Parts.{every_block}
use Rattle.series_pits.specs.declared.best_pits.BestPit.{BestPit}
use Rattle.series_pits.specs.declared.mine_parts.Part.{Part}
use Rattle.series_pits.specs.Prelude.{IsProved, IsLeft}
use Rattle.series_pits.proofs.Proving.{all_one}
use Rattle.series_pits.proofs.Merging.{all_nothing}
use Rattle.series_pits.proofs.Parting.{part_of, whole_part}
use Rattle.series_pits.proofs.mine_halves.found_beside.Goals as goal

pub loop-init : goal.loop-init
loop-init g c =
    let m = c.args.mine.now in
    let pairs = m.predecessors.pairs in
    let prices = m.prices in
    let factors = m.factors.items in
    let P : BestPit → Type 0 = IsProved pairs prices in
    let Q : Part → Type 0 = IsLeft pairs prices factors in
    let all = c.in_ok-all.all in
    let e = c.in_ok-all.ensures in
    let left : Q all = record {
      lies = part_of pairs prices factors all 0 (length factors) []
          (numbers_passing every_block (priced_count prices)) (
            e.0,
            e.1 ∙ c.len-count.ensures
                ∙ m.factors.ok.0,
            e.2,
            e.3 ∙ ap (numbers_passing every_block) c.len-blocks.ensures.is,
          )
          (whole_part pairs prices factors);
      some = omega (arith, e.0, e.1, c.len-count.ensures, m.factors.ok.0, m.form.some);
    } in (
      subst (All P) (sym c.new-found.ensures.items) (all_nothing P),
      subst (All Q) (sym (c.in_ok-push.ensures.items
          ∙ ap (λ (xs : List Part). xs ++ all ∷ []) c.new-parts.ensures.items)) (all_one Q all left),
    )

pub loop-preserved : goal.loop-preserved
loop-preserved g c =
    let P : BestPit → Type 0 = IsProved c.args.mine.now.predecessors.pairs c.args.mine.now.prices in
    let level = c.in_ok-level.ensures in (
      subst (All P) (sym c.in_ok-append.ensures.items)
          (All-append P c.loop.found.items c.in_ok-level.level.found.items c.loop.invariant.0 level.found),
      level.left,
    )
