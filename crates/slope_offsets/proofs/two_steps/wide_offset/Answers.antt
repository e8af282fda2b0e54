use Rattle.fixed_worth.proofs.Common.{◌∙◌, rules, SFits, w32, w64, to_z-of_z}
use Rattle.slope_offsets.proofs.two_steps.wide_offset.Goals as goal

pub returns : goal.returns
returns c =
    let u : SFits w32 c.args.offset.0 = search rules in
    let v : SFits w32 c.args.offset.1 = search rules in
    let w : SFits w32 c.args.offset.2 = search rules in
    let p : SFits w64 c.wide_number-along.result = search rules in
    let q : SFits w64 c.wide_number-across.result = search rules in
    let r : SFits w64 c.wide_number-up.result = search rules in
    let a = to_z-of_z w64 c.wide_number-along.result p ∙ c.wide_number-along.ensures
    ∙ to_z-of_z w32 c.args.offset.0 u in
    let b = to_z-of_z w64 c.wide_number-across.result q ∙ c.wide_number-across.ensures
    ∙ to_z-of_z w32 c.args.offset.1 v in
    let d = to_z-of_z w64 c.wide_number-up.result r ∙ c.wide_number-up.ensures ∙ to_z-of_z w32 c.args.offset.2 w in
    λ i. (a i, b i, d i)
