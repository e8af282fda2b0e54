use Rattle.std.proofs.Common.{ℕ, ◌<◌, All, sym, subst}
use Rattle.net_part.proofs.Above.{above_all}
use Rattle.net_part.proofs.first_labels.rests_on_lowest.Goals as goal

pub first_with_label-place-requires-clause-known : goal.first_with_label-place-requires-clause-known
first_with_label-place-requires-clause-known c =
    let ts = c.above-above.result.now in
    let P : ℕ → Type 0 = λ n. All (λ p. p < n) ts in
    subst P (sym c.requires.labels)
    (above_all c.args.rests.now c.args.b ts c.len-blocks.ensures.all c.above-above.ensures)
