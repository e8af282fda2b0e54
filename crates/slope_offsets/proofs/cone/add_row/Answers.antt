use Rattle.fixed_worth.proofs.Common.{◌≡◌, arith, rules, ℤ, pos, ◌+◌, ◌≤◌, ◌+ℤ◌, ◌-ℤ◌, refl, subst, sym, SFits, w32}
use Rattle.fixed_worth.proofs.Common.{to_z, List, Vec, Global, length, ap, ◌∙◌, to_z-of_z, ints, iff_false}
use Rattle.fixed_worth.proofs.Common.{err_from_is_err_and}
use Rattle.slope_offsets.specs.declared.pattern.TheConstants.{MOST_OFFSETS}
use Rattle.slope_offsets.specs.Prelude.{Offset, Collects, IsBelowPoint}
use Rattle.slope_offsets.proofs.ConeSteps.{row_begun, row_ended, point_taken, point_passed, refused}
use Rattle.slope_offsets.proofs.cone.add_row.Goals as goal
use Rattle.slope_offsets.proofs.cone.add_row.Goals.{then-is_near+in_ok-add, else-is_near}

pub loop-step-init : goal.loop-step-init
loop-step-init c =
    let x = c.ranges.x in
    simp to_z-of_z (
      row_begun c.args.level.number c.args.level.reach c.args.level.run c.args.level.rise
          c.requires.level _ c.args.x (pos 0 -ℤ pos c.args.level.reach) refl c.requires.so_far,
      c.requires.few,
    )

pub returns-in_err-add : goal.returns-in_err-add
returns-in_err-add c =
    let x = c.ranges.x in
    let y : SFits w32 c.coordinate-y.result = search rules in
    let n = simp to_z-of_z at (c.is_near.ensures.0 c.if-is_near.true) in
    let i = simp to_z-of_z at c.loop-step.invariant.0 in
    let P : ℤ → Type 0 = λ t. Collects
    (IsBelowPoint c.args.level.run c.args.level.rise (pos c.args.level.number) c.args.x t)
    c.loop-step.offsets.items in
    let p = err_from_is_err_and c.from_residual.result c.from_residual.ensures.1 in
    rw (p.1, p.2) (refused _ _ _ c.args.x c.coordinate-y.result _ (subst P (sym c.coordinate-y.ensures) i)
    c.in_err-add.field-0.0 c.requires.some n c.in_err-add.ensures)

pub loop-step-preserved : goal.loop-step-preserved
loop-step-preserved c =
    let x = c.ranges.x in
    let y : SFits w32 c.coordinate-y.result = search rules in
    let i = simp to_z-of_z at c.loop-step.invariant.0 in
    let P : ℤ → Type 0 = λ t. Collects
    (IsBelowPoint c.args.level.run c.args.level.rise (pos c.args.level.number) c.args.x t)
    c.loop-step.offsets.items in
    let j = subst P (sym c.coordinate-y.ensures) i in
    let next = pos (c.loop-step.step + 1) -ℤ pos c.args.level.reach in
    let e = c.coordinate-y.ensures in
    let up : next ≡ c.coordinate-y.result +ℤ pos 1 = omega (arith, ints, e) in
    let items_of : Vec Offset Global → List Offset = λ v. v.items in
    let Q : List Offset → Type 0 = λ os. Collects
    (IsBelowPoint c.args.level.run c.args.level.rise (pos c.args.level.number) c.args.x next) os in
    let R : List Offset → Type 0 = λ os. length os ≤ MOST_OFFSETS in
    elim c.if-is_near.branch [
      | then-is_near+in_ok-add w ↦
          let n = simp to_z-of_z at (c.is_near.ensures.0 w.if-is_near.true) in
          let small : c.args.level.number ≤ 1000 = c.requires.level.few_levels in
          let z : to_z w32 c.args.level.number ≡ pos c.args.level.number = omega (arith, ints, small) in
          let a = simp (to_z-of_z, z) at w.in_ok-add.ensures in
          let t = point_taken _ _ _ c.args.x c.coordinate-y.result _ j next up c.requires.some n in
          simp to_z-of_z (
            subst Q (sym a.0 ∙ sym (ap items_of w.offsets-is)) t,
            subst R
                (sym (ap items_of w.offsets-is)) a.1,
          )
      | else-is_near w ↦
          let m = simp to_z-of_z at (iff_false c.is_near.ensures w.if-is_near.false) in
          let t = point_passed _ _ _ c.args.x c.coordinate-y.result _ j next up m in
          simp to_z-of_z (
            subst Q (sym (ap items_of w.offsets-is)) t,
            subst R (sym (ap items_of w.offsets-is))
                c.loop-step.invariant.1,
          )
    ]

pub returns : goal.returns
returns c =
    let x = c.ranges.x in
    let i = simp to_z-of_z at c.loop-step.invariant.0 in (
      row_ended c.args.level.number c.args.level.reach c.args.level.run c.args.level.rise c.requires.level _ c.args.x _
          (c.args.x +ℤ pos 1) (omega (arith, ints)) refl i,
      c.loop-step.invariant.1,
    )
