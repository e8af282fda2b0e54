use Rattle.fixed_worth.proofs.Common.{rules, subst, FitsSigned, w128, to_z-of_z}
use Rattle.closure_net.specs.Network.{FlowView}
use Rattle.solve_engines.specs.declared.certification.Uncertified.{Uncertified}
use Rattle.solve_engines.specs.Certification.{IsSolution, UncertifiedStands}
use Rattle.replay_engines.proofs.Flows.{flow_accepted, flow_refused}
use Rattle.replay_engines.proofs.flow_judge.judge_flow.Goals as goal

pub returns-in-Ok : goal.returns-in-Ok
returns-in-Ok g c = λ texts solved by named.
    let laws = g.met.G.OrderedGroup g.world.𝓛 g.world.𝓜 g.world.𝓡 ((λ s x. x), (λ x. x), (λ x. x), λ x. x) in
    let s = c.in-Ok.solution in
    let fits : FitsSigned w128 s.worth = search rules in
    let solution = subst (λ (flow : FlowView). IsSolution g.G.OrderedGroup.set_worth c.args.net.now flow s.pit s.count
    s.worth) c.in-Ok.ensures.same c.in-Ok.ensures.answer in
    flow_accepted g.G.OrderedGroup.block_parts g.G.OrderedGroup.counts texts g.G.OrderedGroup.name c.args.net.now
    c.args.flow s.pit by named
    g.G.OrderedGroup.set_worth laws.tells_worth c.group.result s.count s.worth _ c.group.ensures solution
    (to_z-of_z w128 s.worth fits)

pub returns-in-Err-Refused : goal.returns-in-Err-Refused
returns-in-Err-Refused g c = λ texts solved by named.
    let refused = subst (λ (u : Uncertified). UncertifiedStands c.args.net.now c.args.flow u)
    c.in-Err-Refused.field-0-is c.in-Err-Refused.ensures.answer in
    flow_refused c.args.net.now c.args.flow c.in-Err-Refused.fault solved refused
