use Rattle.std.proofs.Common.{ℕ, ◌<◌, All, sym, subst, arith}
use Rattle.net_part.proofs.Above.{above_all}
use Rattle.net_part.proofs.numbering.step.Goals as goal

pub first_without_number-place-requires-clause-numbers : goal.first_without_number-place-requires-clause-numbers
first_without_number-place-requires-clause-numbers c =
    let ts = c.above-above.result.now in
    let P : ℕ → Type 0 = λ n. All (λ p. p < n) ts in
    subst P (sym c.requires.numbers) (above_all c.args.rests.now _ ts c.len-n.ensures.all c.above-above.ensures)

pub add-requires : goal.add-requires
add-requires c =
    let ts = c.above-above.result.now in
    omega (
      arith,
      c.requires.numbers,
      above_all c.args.rests.now _ ts c.len-n.ensures.all c.above-above.ensures
          c.first_without_number-place.result 0 c.if-place-above.true,
    )
