use Rattle.fixed_worth.proofs.Common.{◌≡◌, ℕ, ℤ, List, map, length, sym, subst, arith, length-map}
use Rattle.std.specs.Global.{Vec}
use Rattle.slope.specs.Prelude.{AreOwnSlopes, own_offsets}
use Rattle.slope_offsets.specs.Prelude.{Offset}
use Rattle.slope_offsets.specs.declared.selection.Selection.TheVariants.{Every}
use Rattle.held_pairs.specs.OwnRegions.{AreOwnRegions}
use Rattle.held_pairs.proofs.ByRegion.{are_right, slopes_placed}
use Rattle.held_pairs.proofs.by_region.placed_by_region.Goals as goal

pub returns-clause-made : goal.returns-clause-made
returns-clause-made c =
    let m = c.args.model.now in
    let lists : List (List Offset) = map (λ (w : Vec (ℤ × ℤ × ℤ)). w.items) c.args.listed.now in
    let size : length c.args.listed.now ≡ length lists = sym
    (length-map c.args.listed.now (λ (w : Vec (ℤ × ℤ × ℤ)). w.items)) in
    let own = subst (λ (n : ℕ). AreOwnRegions m n c.in-Some.regions.items) size c.in-Some.ensures in
    subst (AreOwnSlopes m (own_offsets lists m) c.args.up Every) (sym c.in-Some-of_grid.ensures)
    (slopes_placed m c.args.up lists c.in-Some.regions.items c.in-Ok.grid c.len-blocks.ensures.all own
    c.in-Ok.ensures)

pub returns-clause-right : goal.returns-clause-right
returns-clause-right c =
    let m = c.args.model.now in
    let lists : List (List Offset) = map (λ (w : Vec (ℤ × ℤ × ℤ)). w.items) c.args.listed.now in
    let size : length c.args.listed.now ≡ length lists = sym
    (length-map c.args.listed.now (λ (w : Vec (ℤ × ℤ × ℤ)). w.items)) in
    let own = subst (λ (n : ℕ). AreOwnRegions m n c.in-Some.regions.items) size c.in-Some.ensures in
    are_right m c.args.up lists c.in-Some.regions.items c.in-Ok.grid c.len-blocks.ensures.all own c.in-Ok.ensures
    (c.lead_up.ensures c.if-not-lead_up.false) (c.are_few.ensures c.if-not-are_few.false)
    (omega (arith, size, c.if-count-gt-MOST_REGIONS.false))
