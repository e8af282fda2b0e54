use Rattle.fixed_worth.proofs.Common.{◌<◌, ◌+◌, ℕ, List, [], ◌∷◌, ◌++◌, length, get_or, map, take, sym, ap, ◌∙◌, arith}
use Rattle.fixed_worth.proofs.Common.{map-append, common_steps}
use Rattle.prec_file.specs.Rests.{above_of, first_of}
use Rattle.prec_file.proofs.Rows.{none_taken, one_taken, block_taken, all_taken}
use Rattle.prec_file.proofs.rests.blocks_of.Goals as goal

pub loop-block-init : goal.loop-block-init
loop-block-init c = c.in_ok-blocks.ensures.items
    ∙ ap (λ (xs : List (ℕ × ℕ)). map (λ p. p.0) xs) (none_taken c.args.of.now.pairs)

pub loop-predecessor-preserved : goal.loop-predecessor-preserved
loop-predecessor-preserved c =
    let ps = c.args.of.now.pairs in
    let b = c.loop-block.block in
    let i = c.loop-predecessor._predecessor-index in
    let p = get_or c.above-above.result.now i 0 in
    let l : i < length (above_of ps b) = omega (arith, c.loop-predecessor-test.true, ap length c.above-above.ensures) in
    let one = one_taken ps c.len-block-end.ensures.all.rising b p i l
    (ap (λ xs. get_or xs i 0) (sym c.above-above.ensures)) in
    c.in_ok-push.ensures.items ∙ ap (λ xs. xs ++ b ∷ []) c.loop-predecessor.invariant
    ∙ sym (map-append (λ (q : ℕ × ℕ). q.0) (take (first_of ps b + i) ps) ((b, p) ∷ []))
    ∙ ap (λ (xs : List (ℕ × ℕ)). map (λ q. q.0) xs) one

pub loop-block-preserved : goal.loop-block-preserved
loop-block-preserved c = grind (arith, common_steps, block_taken)

pub returns : goal.returns
returns c = grind (arith, common_steps, all_taken)
