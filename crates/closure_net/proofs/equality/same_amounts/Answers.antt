use Rattle.std.proofs.Common.{◌<◌, length, arith, below_more, refl, ap, sym, ◌∙◌}
use Rattle.ordered_group.specs.Prelude.{zero_amount, amount_at}
use Rattle.ordered_group.proofs.Lists.{at_map}
use Rattle.closure_net.proofs.Views.{same_amounts_at}
use Rattle.closure_net.proofs.equality.same_amounts.Goals as goal

pub returns-then-not-same : goal.returns-then-not-same
returns-then-not-same g c =
    let parts = g.G.OrderedGroup.parts_of in
    let there : c.loop-k.k < length c.args.ys.now = omega arith in
    let x = at_map parts c.args.xs.now c.loop-k.k c.index-xs-k.result (omega arith) c.index-xs-k.is in
    let y = at_map parts c.args.ys.now c.loop-k.k c.index-ys-k.result there c.index-ys-k.is in
    (λ t. absurd cc, λ e. c.if-not-same.ensures.1 (sym x ∙ ap (λ l. amount_at l c.loop-k.k) e ∙ y))

pub loop-k-preserved : goal.loop-k-preserved
loop-k-preserved g c =
    let parts = g.G.OrderedGroup.parts_of in
    let there : c.loop-k.k < length c.args.ys.now = omega arith in
    let x = at_map parts c.args.xs.now c.loop-k.k c.index-xs-k.result (omega arith) c.index-xs-k.is in
    let y = at_map parts c.args.ys.now c.loop-k.k c.index-ys-k.result there c.index-ys-k.is in
    below_more _ _ c.loop-k.invariant (x ∙ c.if-not-same.ensures.0 refl ∙ sym y)

pub returns : goal.returns
returns g c = (
  λ t. same_amounts_at g.G.OrderedGroup.parts_of zero_amount c.args.xs.now c.args.ys.now c.if-xs-ys.false
      (λ i l. c.loop-k.invariant i (omega arith)),
  λ e. refl,
)
