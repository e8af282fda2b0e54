use Rattle.std.proofs.Common.{◌≡◌, ◌∙◌, true, false, ap, sym, refl}
use Rattle.closure_net.specs.Network.{FlowView}
use Rattle.async_step.specs.Views.{StateView}
use Rattle.async_step.proofs.Waits.{flow_of}
use Rattle.async_step.proofs.state.State.into_flow.Goals as goal

pub returns-then-not-quiet : goal.returns-then-not-quiet
returns-then-not-quiet g c = (
  refl,
  λ q. (let t = (c.quiet.ensures c.args._net.now (sym c.requires.blocks)).1 q in let e : true ≡ false = sym t
      ∙ c.if-not-quiet.true in cc),
)

pub returns : goal.returns
returns g c =
    let e = c.new.ensures in
    let k = c.self.view_is in (
      (c.quiet.ensures c.args._net.now (sym c.requires.blocks)).0 c.if-not-quiet.false,
      flow_of c.args._net.now c.args.self c.new.result c.requires c.len-sized.ensures.sized
          (ap (λ (x : FlowView). x.source) e ∙ c.from_list.ensures ∙ ap (λ (w : StateView). w.source) k)
          (ap (λ (x : FlowView). x.rest) e ∙ c.from_list-2.ensures ∙ ap (λ (w : StateView). w.flow) k)
          (ap (λ (x : FlowView). x.sink) e ∙ c.from_list-3.ensures ∙ ap (λ (w : StateView). w.sink) k),
    )
