use Rattle.fixed_worth.proofs.Common.{◌≡◌, ◌<◌, ◌-◌, ◌∙◌, map, ap, arith, rules, range_with_len, AllZip-map}
use Rattle.rayon.specs.Numbers.{nat_range}
use Rattle.rayon.proofs.ListFacts.{IfOk-then}
use Rattle.rayon.proofs.ToStd.{nat_range-All}
use Rattle.shells.specs.Prices.{priced_count, worth_at}
use Rattle.shells.proofs.price_tables.Prices.worths_at.Goals as goal

pub collect-requires-clause-ready : goal.collect-requires-clause-ready
collect-requires-clause-ready g c κs within =
    let ends = c.into_par_iter.ensures in
    let n = c.len-blocks.result in
    let blocks = priced_count c.args.self.now in
    let counted : n ≡ blocks = search (rules, c.len-blocks.ensures, c.self.view_is) in
    let inside = nat_range-All (λ b. b < blocks) 0 n (λ b low high. omega (arith, high, counted)) in
    rw (c.map.ensures.base, c.map.ensures.f, ends.0, ends.1) (λ k d lt. (inside k d lt, λ y p. tt))

pub returns : goal.returns
returns g c =
    let ends = c.into_par_iter.ensures in
    let n = c.len-blocks.result in
    let blocks = priced_count c.args.self.now in
    let counted : n ≡ blocks = search (rules, c.len-blocks.ensures, c.self.view_is) in
    let whole : n - 0 ≡ blocks = omega (arith, counted) in
    IfOk-then c.collect.result _ _ c.collect.ensures (λ v h.
    let chain = rw (c.map.ensures.base, c.map.ensures.f) at h.1 in
    let places = chain.1 ∙ (λ i. nat_range (ends.0 i) (ends.1 i)) ∙ ap (range_with_len 0) whole in
    h.2 ∙ AllZip-map (worth_at c.args.self.now c.args.factor) chain.0 h.0 chain.2
    ∙ ap (map (worth_at c.args.self.now c.args.factor)) places)
