use Rattle.fixed_worth.proofs.Common.{◌≡◌, ◌∙◌}
use Rattle.mine_inputs.specs.PricedTexts.{way_from}
use Rattle.mine_inputs.proofs.Priced.{one_more}
use Rattle.mine_inputs.proofs.priced_inputs.ways_of.Goals as goal

pub loop-i-preserved : goal.loop-i-preserved
loop-i-preserved c =
    let r = c.in_ok-revenue.ensures in
    let p = c.in_ok-processing.ensures in
    let made : c.new.result ≡ way_from c.args.model.now c.loop-i.i = c.new.ensures
    ∙ (λ j. record { revenue = r j; processing = p j }) in
    one_more (way_from c.args.model.now) c.loop-i.i c.loop-i.ways.items _ _ c.loop-i.invariant
    c.in_ok-push.ensures.items made
