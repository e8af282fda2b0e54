use Rattle.fixed_worth.proofs.Common.{◌∙◌, ◌-ℤ◌, rules, SFits, w32, w64, to_z-of_z}
use Rattle.slope_offsets.proofs.two_steps.rest_offset.Goals as goal

pub returns : goal.returns
returns c =
    let u : SFits w32 c.args.whole.0 = search rules in
    let v : SFits w32 c.args.whole.1 = search rules in
    let w : SFits w32 c.args.whole.2 = search rules in
    let x : SFits w32 c.args.step.0 = search rules in
    let y : SFits w32 c.args.step.1 = search rules in
    let z : SFits w32 c.args.step.2 = search rules in
    let p : SFits w64 c.rest-along.result = search rules in
    let q : SFits w64 c.rest-across.result = search rules in
    let r : SFits w64 c.rest-up.result = search rules in
    let a = to_z-of_z w64 c.rest-along.result p ∙ c.rest-along.ensures
    ∙ (λ i. to_z-of_z w32 c.args.whole.0 u i -ℤ to_z-of_z w32 c.args.step.0 x i) in
    let b = to_z-of_z w64 c.rest-across.result q ∙ c.rest-across.ensures
    ∙ (λ i. to_z-of_z w32 c.args.whole.1 v i -ℤ to_z-of_z w32 c.args.step.1 y i) in
    let d = to_z-of_z w64 c.rest-up.result r ∙ c.rest-up.ensures
    ∙ (λ i. to_z-of_z w32 c.args.whole.2 w i -ℤ to_z-of_z w32 c.args.step.2 z i) in
    λ i. (a i, b i, d i)
