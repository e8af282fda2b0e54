use Rattle.fixed_worth.proofs.Common.{rules, ◌≡◌, length, length-map, map, refl, sym, ap, ◌∙◌, arith, ints, ℤ, SFits}
use Rattle.fixed_worth.proofs.Common.{w128}
use Rattle.ordered_group.specs.Prelude.{worth_block}
use Rattle.closure_net.specs.Prelude.{NetView, holds_of, net_view}
use Rattle.bound_engines.proofs.Bounded.{richest_told, worth_told_by}
use Rattle.bound_engines.proofs.nodes_judge.judge_nodes.Goals as goal

pub with_pairs-net-requires : goal.with_pairs-net-requires
with_pairs-net-requires g c =
    let rests = c.args.pairs.now in
    let size : length c.as_ref.result.worths ≡ length c.args.worths.now = ap (λ (v : NetView). length v.worths)
    c.as_ref.ensures ∙ (ap length c.in-Ok.ensures.0
    ∙ length-map c.args.worths.now (λ (v : ℤ). worth_block v rests.blocks)) in
    (search rules, (search rules, c.in-Ok.ensures.1 ∙ sym size))

pub returns-in-Ok-check_held-clause-is : goal.returns-in-Ok-check_held-clause-is
returns-in-Ok-check_held-clause-is g c =
    let pairs = c.args.pairs.now in
    let worths = c.args.worths.now in
    let net = c.with_pairs-net.result in
    let of = net_view pairs.pairs (map (λ (v : ℤ). worth_block v pairs.blocks) worths) in
    let is : net ≡ of = c.with_pairs-net.ensures
    ∙ (ap (λ (v : NetView). net_view pairs.pairs v.worths) c.as_ref.ensures
    ∙ ap (net_view pairs.pairs) c.in-Ok.ensures.0) in
    let pit = c.in-Ok-check_held.accepted.pit in
    let checked = c.in-Ok-check_held.ensures.checked c.requires.open.fault c.requires.open.undone in
    let told = worth_told_by pairs worths of net c.in-Ok-check_held.accepted.net pit _ refl is checked.2.0
    c.worth.ensures.set in
    let fits : SFits w128 c.worth.result.nanos = search rules in (
      holds_of pit,
      richest_told pairs worths of net c.in-Ok-check_held.accepted.net pit refl is checked.2.0
          c.worth.ensures.greatest,
      omega (arith, ints, told, fits),
    )
