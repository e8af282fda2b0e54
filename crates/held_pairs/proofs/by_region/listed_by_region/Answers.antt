use Rattle.fixed_worth.proofs.Common.{ℤ, List, map, sym, subst}
use Rattle.std.specs.Global.{Vec}
use Rattle.slope.specs.Prelude.{AreOwnSlopes, own_offsets}
use Rattle.slope_offsets.specs.Prelude.{Offset}
use Rattle.slope_offsets.specs.declared.selection.Selection.TheVariants.{Every}
use Rattle.held_pairs.proofs.by_region.listed_by_region.Goals as goal

pub returns-in-Ok-clause-made : goal.returns-in-Ok-clause-made
returns-in-Ok-clause-made c =
    let m = c.args.model.now in
    let lists : List (List Offset) = map (λ (w : Vec (ℤ × ℤ × ℤ)). w.items) c.args.listed.now in
    subst (AreOwnSlopes m (own_offsets lists m) c.args.up Every) (sym c.of_list-held.ensures) c.in-Ok.ensures.made
