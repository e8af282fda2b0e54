use Rattle.fixed_worth.proofs.Common.{length, ap, arith, subst, sym, List, Contains, All-contains, All-contains_itself}
use Rattle.fixed_worth.proofs.Common.{All-weaker}
use Rattle.slope_offsets.specs.Offsets.{Offset, IsUpward, AreOffsets}
use Rattle.slope_offsets.proofs.pattern.Pattern.gathered.Goals as goal

pub of-requires : goal.of-requires
of-requires c =
    let e = c.in_ok-from_slice.ensures.items in
    let os = c.in_order-offsets.result.items in
    record {
      rising = c.in_order-offsets.ensures.rising;
      upward = All-weaker (Contains os) IsUpward
          (λ o k. All-contains IsUpward c.args.listed.now o c.requires.upward
          (subst (λ (xs : List Offset). Contains xs o) e (c.in_order-offsets.ensures.only o k))) os
          (All-contains_itself os);
      few = omega (arith, ap length e, c.in_order-offsets.ensures.fewer, c.requires.few);
    }

pub returns-clause-is : goal.returns-clause-is
returns-clause-is c =
    let e = c.in_ok-from_slice.ensures.items in
    let P : List Offset → Type 0 = λ p. AreOffsets (Contains c.args.listed.now) p in
    subst P (sym c.in_ok-pattern.ensures.is) (record {
      rising = c.in_order-offsets.ensures.rising;
      held = λ o k. c.in_order-offsets.ensures.held o (subst (λ (xs : List Offset). Contains xs o) (sym e) k);
      only = λ o k. subst (λ (xs : List Offset). Contains xs o) e (c.in_order-offsets.ensures.only o k);
    })
