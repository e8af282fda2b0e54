use Rattle.fixed_worth.proofs.Common.{List, sym, subst}
use Rattle.slope_offsets.specs.Prelude.{Offset, AreOffsets, IsInCone}
use Rattle.slope_offsets.proofs.pattern.Pattern.cone.Goals as goal

pub returns-in-Ok : goal.returns-in-Ok
returns-in-Ok c =
    let P : List Offset → Type 0 = λ p. AreOffsets (IsInCone c.args.levels c.args.run c.args.rise) p in
    subst P (sym c.in-Ok.ensures.is) (record {
      rising = c.in_order.ensures.rising;
      held = λ o p. c.in_order.ensures.held o (c.in_ok-listed.ensures.0.held o p);
      only = λ o k. c.in_ok-listed.ensures.0.only o (c.in_order.ensures.only o k);
    })
