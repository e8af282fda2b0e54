use Rattle.std.proofs.Common.{◌≡◌, ◌+◌, ◌-◌, get_or, arith, ap, ◌∙◌}
use Rattle.closure_net.proofs.Ascending.{apart_by_places}
use Rattle.closure_net.proofs.pit.highest_place.Goals as goal

pub returns-then-far-blocks-clause-highest : goal.returns-then-far-blocks-clause-highest
returns-then-far-blocks-clause-highest c = λ i l f e.
    let k = i - c.args.from in
    let w : c.args.from + k ≡ i = omega arith in
    let s = apart_by_places c.args.blocks.now c.requires.ascending c.args.from k (omega arith) in
    let v : get_or c.args.blocks.now (c.args.from + k) 0 ≡ c.args.b = ap (λ q. get_or c.args.blocks.now q 0) w ∙ e in
    omega (arith, s, v)
