use Rattle.fixed_worth.proofs.Common.{◌≡◌, ◌+◌, ◌<◌, ◌∙◌, ℕ, List, All, length, map, get_or, Vec, Global, Option}
use Rattle.fixed_worth.proofs.Common.{IfSome, sym, ap, subst, get_or_read}
use Rattle.prec_file.specs.Rests.{numbers_passing}
use Rattle.closure_net.specs.Prelude.{holds_of, IsBest}
use Rattle.shells.specs.Series.{mine_at}
use Rattle.sub_mines.specs.Prelude.{union_of, difference_of, every_block, number_in}
use Rattle.series_pits.proofs.Parting.{lifted_best, lower_part, higher_part, same_lists_part}
use Rattle.series_pits.proofs.mine_parts.by_pit.Goals as goal

pub returns : goal.returns
returns c = λ pairs h part found.
    let prices = c.args.mine.now.prices in
    let factors = c.args.mine.now.factors.items in
    let from = c.args.part.now.from in
    let to = c.args.part.now.to in
    let place = c.args.place in
    let low = c.args.part.now.low.items in
    let kept = c.args.part.now.kept.items in
    let s = c.args.small.now in
    let ks = c.as_slice-kept.result.now in
    let ss = c.blocks-2.result.now in
    let first = c.requires.first in
    let last = c.requires.last in
    let rising = c.blocks-2.ensures.ascending in
    let at = subst (λ (o : Option (Vec ℕ Global)). IfSome o (λ v. (v.items ≡ map (number_in ks) ss)
    × All (λ i. i < length ks) ss)) c.in-Some.is c.in_ok-inside.ensures.found in
    let ke : ks ≡ kept = c.as_slice-kept.ensures.value in
    let se : ss ≡ s = c.blocks-2.ensures.is in
    let inside : c.in-Some.inside.items ≡ map (number_in kept) s = at.0
    ∙ ap (λ (xs : List ℕ). map (number_in xs) ss) ke ∙ ap (map (number_in kept)) se in
    let places : All (λ i. i < length kept) s = subst (All (λ i. i < length kept)) se
    (subst (λ (xs : List ℕ). All (λ i. i < length xs) ss) ke at.1) in
    let outside : c.in_ok-outside.outside.items ≡ map (number_in kept)
    (numbers_passing (difference_of every_block (holds_of s)) (length kept)) =
    c.in_ok-outside.ensures ∙ ap
    (λ (xs : List ℕ). map (number_in xs) (numbers_passing (difference_of every_block (holds_of s)) (length xs)))
    ke in
    let blocks = c.in_ok-blocks.blocks.items in
    let are : (b : ℕ) → holds_of blocks b ≡ union_of (holds_of low) (holds_of (map (number_in kept) s)) b = λ b.
    c.in_ok-blocks.ensures b ∙ ap (λ (xs : List ℕ). union_of (holds_of xs) (holds_of c.as_slice-2.result.now) b)
    c.as_slice.ensures.value
    ∙ ap (λ (xs : List ℕ). union_of (holds_of low) (holds_of xs) b) (c.as_slice-2.ensures.value ∙ inside) in
    let above : c.in_ok-above.above.items ≡ blocks = c.in_ok-above.ensures.items ∙ c.as_slice-3.ensures.value in
    let again : c.in_ok-from_slice.field-0.items ≡ low = c.in_ok-from_slice.ensures.items
    ∙ c.as_slice-4.ensures.value in
    let is_k : c.index.result.now ≡ get_or factors place 0 = get_or_read factors place c.index.result.now
    c.requires.inside c.index.ensures 0 in
    let best = lifted_best pairs prices factors from to place low kept s h part first last rising places found blocks
    are in
    record {
      found = c.in-Some-best_with.ensures.best pairs
          (subst (λ f. IsBest (mine_at pairs prices f) (holds_of blocks)) (sym is_k) best);
      lower = same_lists_part pairs prices factors from place low _ _ _ again inside
          (lower_part pairs prices factors from to place low kept s h part first last rising places found blocks are);
      higher = same_lists_part pairs prices factors (place + 1) to blocks _ _ _ above outside
          (higher_part pairs prices factors from to place low kept s h part first last rising places found blocks are
          c.in-Some-best_with.ensures.list.0 c.in-Some-best_with.ensures.list.1);
    }
