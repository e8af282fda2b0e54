use Rattle.fixed_worth.proofs.Common.{sym, subst, ◌∙◌, length-map}
use Rattle.places.specs.Boxes.{AreLows}
use Rattle.places.proofs.Sights.{placed_by, fault_told}
use Rattle.places.proofs.laying.grid_of.Goals as goal

pub returns-in-Ok-of_parts : goal.returns-in-Ok-of_parts
returns-in-Ok-of_parts c =
    let m = c.in-Ok-of_parts.ensures.made in
    let q = c.in-Some-parted.ensures in
    placed_by _ _ _ _ _ _ _ _ _ _ _ c.in-Ok-of_parts.ensures.all (m.0 ∙ q.0) (m.1 ∙ q.1) (m.2 ∙ q.2) (m.3 ∙ q.3)
    (m.4 ∙ q.4) c.in-Ok-lows_of.ensures c.in-Some-centre_of.ensures c.in-Ok.ensures
    (sym (length-map c.args.slopes.now (λ v. v.items)))

pub returns-in-Err-of_parts : goal.returns-in-Err-of_parts
returns-in-Err-of_parts c =
    fault_told c.args.model.now c.args.up c.in-Some.of c.in-Some-parted.parts.lows.items c.in-Err-of_parts.fault
    (subst (AreLows c.in-Some.of c.args.up c.args.model.now c.args.model.now.blocks) (sym c.in-Some-parted.ensures.0)
    c.in-Ok-lows_of.ensures) c.in-Err-of_parts.ensures.made
