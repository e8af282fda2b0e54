use Rattle.fixed_worth.proofs.Common.{◌≡◌, ◌+◌, arith, pos, ℕ, subst, err_from_is_err_and}
use Rattle.slope_offsets.specs.Gathering.{Collects, IsBelowLevel}
use Rattle.slope_offsets.proofs.ConeSteps.{cone_ended, cone_wider}
use Rattle.slope_offsets.proofs.cone.cone_offsets.Goals as goal

pub returns-in_err-add_level : goal.returns-in_err-add_level
returns-in_err-add_level c =
    let p = err_from_is_err_and c.from_residual.result c.from_residual.ensures.1 in
    rw (p.1, p.2) (cone_wider c.loop-number.number c.args.levels c.args.run c.args.rise c.in_err-add_level.field-0.0
    (omega arith) c.in_err-add_level.ensures)

pub returns : goal.returns
returns c =
    let e : c.loop-number.number ≡ c.args.levels + 1 = omega arith in
    let P : ℕ → Type 0 = λ k. Collects (IsBelowLevel c.args.run c.args.rise (pos k)) c.loop-number.offsets.items in
    (cone_ended c.args.levels c.args.run c.args.rise _ (subst P e c.loop-number.invariant.0), c.loop-number.invariant.1)
