use Rattle.std.proofs.Common.{inr, refl, subst}
use Rattle.solve_engines.specs.declared.certification.Uncertified.{Uncertified}
use Rattle.solve_engines.specs.Prelude.{UncertifiedStands, too_large_line}
use Rattle.traced_engine.proofs.RunAnswers.{certified, check_overflows, said_no}
use Rattle.traced_engine.proofs.traced_run.tell_flow.Goals as goal

pub returns-in-Err-Refused-clause-answer : goal.returns-in-Err-Refused-clause-answer
returns-in-Err-Refused-clause-answer g c = λ limit room history audit.
    let refused = subst (λ (u : Uncertified). UncertifiedStands c.args.net.now c.args.flow u)
    c.in-Err-Refused.field-0-is c.in-Err-Refused.ensures.answer in
    said_no g.G.OrderedGroup.counts g.G.OrderedGroup.name c.args.price c.args.net.now limit room history
    too_large_line (g.W.Write.contents c.args.out.now) (g.W.Write.contents c.write_no.new.out) c.write_no.result
    (inr (inr (inr (check_overflows c.args.net.now limit room c.args.flow history _ audit refused, refl))))
    c.write_no.ensures.answer

pub returns-in-Ok-clause-answer : goal.returns-in-Ok-clause-answer
returns-in-Ok-clause-answer g c = λ limit room history audit.
    let s = c.in-Ok.solution in
    certified g.G.OrderedGroup.counts g.G.OrderedGroup.name c.args.price c.args.net.now limit room history s.pit
    s.flow c.args.flow (g.W.Write.contents c.args.out.now) (g.W.Write.contents c.write_answer.new.out)
    c.in-Ok.ensures.answer.sound c.in-Ok.ensures.same audit c.write_answer.result c.write_answer.ensures.answer
