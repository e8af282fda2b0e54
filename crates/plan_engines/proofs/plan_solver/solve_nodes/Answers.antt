use Rattle.std.proofs.Common.{ℤ, List, false, subst, Ok, Err}
use Rattle.ordered_group.specs.declared.groups.Group.TheVariants.{Worth}
use Rattle.ordered_group.specs.Prelude.{worth_block}
use Rattle.solve_engines.specs.Prelude.{IsPlacedCertificate, held_net}
use Rattle.solve_engines.proofs.PlacedAnswers as placed
use Rattle.plan_engines.proofs.PlanSolved.{sent}
use Rattle.plan_engines.proofs.plan_solver.solve_nodes.Goals as goal

pub returns-in-Ok-clause-answer : goal.returns-in-Ok-clause-answer
returns-in-Ok-clause-answer g c =
    let pairs = c.args.nodes.pairs in
    let worths = c.args.nodes.worths.items in
    let asked = c.args.asked in
    let text = c.in-Some.found.text.items in
    let P : List ℤ → Type 0 = λ ws. IsPlacedCertificate false Worth asked.price (held_net worth_block pairs ws) text in
    let held = subst P c.as_slice-worths.ensures.value c.in-Some.ensures.certificate in (
      held.is_net,
      placed.sent false Worth asked.price (held_net worth_block pairs worths) asked.effort.method
          asked.effort.steps text (g.W.Write.contents c.args.out.now) (g.W.Write.contents c.write_placed.new.out)
          (Ok c.in-Ok.verdict) held.certificate c.in-Ok.ensures.sent,
    )

pub returns-clause-answer : goal.returns-clause-answer
returns-clause-answer g c =
    let pairs = c.args.nodes.pairs in
    let worths = c.args.nodes.worths.items in
    let asked = c.args.asked in
    let old = g.W.Write.contents c.args.out.now in
    let new = g.W.Write.contents c.write_placed.new.out in
    let text = c.in-Some.found.text.items in
    let P : List ℤ → Type 0 = λ ws. IsPlacedCertificate false Worth asked.price (held_net worth_block pairs ws) text in
    let held = subst P c.as_slice-worths.ensures.value c.in-Some.ensures.certificate in
    let written = placed.sent false Worth asked.price (held_net worth_block pairs worths) asked.effort.method
    asked.effort.steps text old new (Err c.in-Err.fault) held.certificate c.in-Err.ensures.sent in
    sent asked.price pairs worths asked.effort.method asked.effort.steps old new c.in-Err.fault held.is_net written
