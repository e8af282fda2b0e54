use Rattle.fixed_worth.proofs.Common.{SFits, w32, rules, arith, ◌∙◌, to_z-of_z, ints}
use Rattle.slope.proofs.Finding.{first_of, second_of, height_of, at_place}
use Rattle.slope.proofs.offset_places.place_at.Goals as goal

pub returns-in_err-x : goal.returns-in_err-x
returns-in_err-x c = rw c.from_residual.ensures (λ to f e.
    let u : SFits w32 c.args.from.x = search rules in
    let v : SFits w32 c.args.offset.0 = search rules in
    let n = first_of c.args.up c.args.from to c.args.offset e in
    c.in_err-x.ensures to.x f.0 (omega (arith, ints, n, u, v)))

pub returns-in_err-y : goal.returns-in_err-y
returns-in_err-y c = rw c.from_residual-in_err-y.ensures (λ to f e.
    let u : SFits w32 c.args.from.y = search rules in
    let v : SFits w32 c.args.offset.1 = search rules in
    let n = second_of c.args.up c.args.from to c.args.offset e in
    c.in_err-y.ensures to.y f.1 (omega (arith, ints, n, u, v)))

pub returns-in_err-z : goal.returns-in_err-z
returns-in_err-z c = rw c.from_residual-in_err-z.ensures (λ to f e.
    let u : SFits w32 c.args.from.z = search rules in
    let v : SFits w32 c.args.offset.2 = search rules in
    let b = c.height.ensures.bound in
    let n = height_of c.args.up c.args.from to c.args.offset e c.height.result
    (c.height.ensures.up ∙ to_z-of_z w32 c.args.offset.2 v) in
    c.in_err-z.ensures to.z f.2 (omega (arith, ints, n, u, b)))

pub returns : goal.returns
returns c =
    let u : SFits w32 c.args.from.x = search rules in
    let v : SFits w32 c.args.from.y = search rules in
    let w : SFits w32 c.args.from.z = search rules in
    let p : SFits w32 c.args.offset.0 = search rules in
    let q : SFits w32 c.args.offset.1 = search rules in
    let r : SFits w32 c.args.offset.2 = search rules in
    let x : SFits w32 c.in_ok-x.x = search rules in
    let y : SFits w32 c.in_ok-y.y = search rules in
    let z : SFits w32 c.in_ok-z.z = search rules in
    let a = c.in_ok-x.ensures in
    let b = c.in_ok-y.ensures in
    let d = c.in_ok-z.ensures in
    let h = c.height.ensures.bound in
    at_place c.args.up c.args.from _ c.args.offset c.height.result
    (c.height.ensures.up ∙ to_z-of_z w32 c.args.offset.2 r) (omega (arith, ints, u, p, x, a))
    (omega (arith, ints, v, q, y, b)) (omega (arith, ints, w, z, d, h))
