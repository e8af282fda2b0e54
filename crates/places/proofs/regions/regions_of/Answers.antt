use Rattle.fixed_worth.proofs.Common.{ℤ, sym, subst, get_or, arith, nat_tests, common_steps}
use Rattle.places.specs.Regions.{IsRegion}
use Rattle.places.proofs.regions.regions_of.Goals as goal

pub returns-in_default : goal.returns-in_default
returns-in_default c = (
  grind (arith, nat_tests, common_steps),
  λ k l. (get_or c.loop-b.regions.items k 0, c.loop-b.invariant.each k l),
  λ h. c.in_default.ensures h.0 (subst (λ (v : ℤ). IsRegion v c.args.count h.0) (sym c.column.ensures) h.1),
)
