use Rattle.std.proofs.Common.{ℕ, List, refl, sym, subst, ◌∙◌, true≢false}
use Rattle.closure_net.specs.Prelude.{holds_of, IsBest}
use Rattle.shells.specs.Series.{mine_at, IsAboveAll}
use Rattle.shells.proofs.Shells.{net_of_over}
use Rattle.shells.proofs.shell_series.Series.push.Goals as goal

pub returns-then-not-is_higher-clause-refused : goal.returns-then-not-is_higher-clause-refused
returns-then-not-is_higher-clause-refused g c =
    (refl, λ above. true≢false (sym (c.is_higher.ensures.1 above) ∙ c.if-not-is_higher.true))

pub returns-then-not-is_model_of-clause-refused : goal.returns-then-not-is_model_of-clause-refused
returns-then-not-is_model_of-clause-refused g c = (
  refl,
  (
    c.is_higher.ensures.0 c.if-not-is_higher.false,
    λ over. true≢false (sym (c.is_model_of.ensures.1 over)
        ∙ c.if-not-is_model_of.true),
  ),
)

pub returns-then-is_full-clause-refused : goal.returns-then-is_full-clause-refused
returns-then-is_full-clause-refused g c = (
  refl,
  (
    c.is_higher.ensures.0 c.if-not-is_higher.false,
    c.is_model_of.ensures.0 c.if-not-is_model_of.false,
    c.is_full.ensures.full.0 c.if-is_full.true,
  ),
)

pub put-requires-clause-above : goal.put-requires-clause-above
put-requires-clause-above g c = subst (IsAboveAll c.args.self.now.factors) (sym c.get.ensures.value)
    (c.is_higher.ensures.0 c.if-not-is_higher.false)

pub put-requires-clause-best : goal.put-requires-clause-best
put-requires-clause-best g c =
    let s = c.args.self.now in
    let net = c.args.accepted.now.net in
    let over = net_of_over g.G.OrderedGroup.block_parts s.pairs s.prices c.args.factor net
    (c.is_model_of.ensures.0 c.if-not-is_model_of.false) in
    let best = c.greatest_set_is_best_pit.ensures (mine_at s.pairs s.prices c.args.factor) net
    (holds_of c.args.accepted.now.pit) over c.pit.ensures.greatest in
    subst (λ k. IsBest (mine_at s.pairs s.prices k) (holds_of c.pit.result.now)) (sym c.get.ensures.value)
    (subst (λ (p : List ℕ). IsBest (mine_at s.pairs s.prices c.args.factor) (holds_of p)) (sym c.pit.ensures.is) best)

pub returns-clause-best : goal.returns-clause-best
returns-clause-best g c =
    let s = c.args.self.now in
    let net = c.args.accepted.now.net in
    let over = net_of_over g.G.OrderedGroup.block_parts s.pairs s.prices c.args.factor net
    (c.is_model_of.ensures.0 c.if-not-is_model_of.false) in
    c.greatest_set_is_best_pit.ensures (mine_at s.pairs s.prices c.args.factor) net (holds_of c.args.accepted.now.pit)
    over c.pit.ensures.greatest
