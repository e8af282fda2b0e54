use Rattle.fixed_worth.proofs.Common.{◌≡◌, ◌∙◌, ◌++◌, ◌∷◌, [], ap, sym, take, length, arith, List, pos, take-length}
use Rattle.fixed_worth.proofs.Common.{take_more}
use Rattle.slope_offsets.specs.Offsets.{Offset}
use Rattle.slope_offsets.proofs.two_steps.widened.Goals as goal

pub loop-offset-preserved : goal.loop-offset-preserved
loop-offset-preserved c =
    let os = c.args.offsets.now in
    let k = c.loop-offset.offset-index in
    c.in_ok-push.ensures.items ∙ ap (λ (xs : List Offset). xs ++ c.wide_offset.result ∷ []) c.loop-offset.invariant
    ∙ ap (λ (o : Offset). take k os ++ o ∷ []) c.wide_offset.ensures
    ∙ sym (take_more os k (pos 0, pos 0, pos 0) c.loop-offset-test.true)

pub returns : goal.returns
returns c =
    let e : c.loop-offset.offset-index ≡ length c.args.offsets.now = omega arith in
    c.loop-offset.invariant ∙ ap (λ k. take k c.args.offsets.now) e ∙ take-length c.args.offsets.now
