use Rattle.fixed_worth.proofs.Common.{◌≡◌, arith, rules, ℤ, pos, ◌+◌, ◌+ℤ◌, ◌-ℤ◌, refl, subst, SFits, w32, to_z-of_z}
use Rattle.fixed_worth.proofs.Common.{ints}
use Rattle.slope_offsets.specs.Gathering.{Collects, IsBelowRow}
use Rattle.slope_offsets.proofs.ConeSteps.{level_begun, level_ended}
use Rattle.slope_offsets.proofs.cone.add_level.Goals as goal

pub loop-step-init : goal.loop-step-init
loop-step-init c = (
  level_begun c.args.level.number c.args.level.reach c.args.level.run c.args.level.rise
      c.requires.level _ (pos 0 -ℤ pos c.args.level.reach) refl c.requires.so_far,
  c.requires.few,
)

pub loop-step-preserved : goal.loop-step-preserved
loop-step-preserved c =
    let x : SFits w32 c.coordinate-x.result = search rules in
    let e = c.coordinate-x.ensures in
    let a = simp to_z-of_z at c.in_ok-add_row.ensures in
    let next = pos (c.loop-step.step + 1) -ℤ pos c.args.level.reach in
    let up : c.coordinate-x.result +ℤ pos 1 ≡ next = omega (arith, ints, e) in
    let P : ℤ → Type 0 = λ t. Collects (IsBelowRow c.args.level.run c.args.level.rise (pos c.args.level.number) t)
    c.add_row.new.offsets.items in
    (subst P up a.0, a.1)

pub returns : goal.returns
returns c = (
  level_ended c.args.level.number c.args.level.reach c.args.level.run c.args.level.rise c.requires.level _
      _ (omega (arith, ints)) c.loop-step.invariant.0,
  c.loop-step.invariant.1,
)
