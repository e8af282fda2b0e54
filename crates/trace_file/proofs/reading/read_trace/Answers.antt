use Rattle.std.proofs.Common.{◌≡◌, rules, ◌+◌, ◌++◌, ◌∷◌, [], sym, ◌∙◌, subst, arith}
use Rattle.trace_file.proofs.Steps.{Going, at_end, all_read, no_event, too_many, goes_on, stands, anyway}
use Rattle.trace_file.proofs.reading.read_trace.Goals as goal

pub returns-in-Some-end_fault : goal.returns-in-Some-end_fault
returns-in-Some-end_fault c =
    stands c.in-Some-end_fault.fault
    (at_end c.args.text.now c.loop-cut.left.now c.in-Some.cut.0.now c.in-Some.cut.1.now c.loop-cut.events.items
    (c.len.result + 2) c.loop-cut.invariant (omega (arith, c.len.ensures, c.loop-cut.events.ok.0))
    c.in-Some.ensures (sym c.eq.ensures ∙ c.if-eq.true)
    ∙ sym c.end_fault.ensures ∙ c.in-Some-end_fault.is)

pub returns-in-None-end_fault : goal.returns-in-None-end_fault
returns-in-None-end_fault c =
    all_read c.args.text.now c.loop-cut.left.now c.in-Some.cut.0.now c.in-Some.cut.1.now c.loop-cut.events.items
    (c.len.result + 2) c.loop-cut.invariant (omega (arith, c.len.ensures, c.loop-cut.events.ok.0))
    c.in-Some.ensures (sym c.eq.ensures ∙ c.if-eq.true)
    (sym c.end_fault.ensures ∙ c.in-None-end_fault.is)

pub returns-in-None-event_in : goal.returns-in-None-event_in
returns-in-None-event_in c =
    anyway (no_event c.args.text.now c.loop-cut.left.now c.in-Some.cut.0.now c.in-Some.cut.1.now
    c.loop-cut.events.items (c.len.result + 2) c.loop-cut.invariant
    (omega (arith, c.len.ensures, c.loop-cut.events.ok.0)) c.in-Some.ensures (sym c.eq.ensures ∙ c.if-eq.false)
    (sym c.event_in.ensures ∙ c.in-None-event_in.is))

pub returns-then-len : goal.returns-then-len
returns-then-len c =
    anyway (too_many c.args.text.now c.loop-cut.left.now c.in-Some.cut.0.now c.in-Some.cut.1.now
    c.loop-cut.events.items c.in-Some-event_in.event c.loop-cut.invariant c.in-Some.ensures
    (sym c.eq.ensures ∙ c.if-eq.false) (sym c.event_in.ensures ∙ c.in-Some-event_in.is)
    (omega (arith, c.len-in-loop-cut.ensures, c.if-len.true, c.loop-cut.events.ok.0)))

pub loop-cut-preserved : goal.loop-cut-preserved
loop-cut-preserved c =
    let pushed : c.push.new.self.items ≡ c.loop-cut.events.items ++ (c.in-Some-event_in.event ∷ []) = search rules in
    let few = c.loop-cut.invariant.few in
    subst (Going c.args.text.now c.in-Some.cut.1.now) (sym pushed)
    (goes_on c.args.text.now c.loop-cut.left.now c.in-Some.cut.0.now c.in-Some.cut.1.now c.loop-cut.events.items
    c.in-Some-event_in.event c.loop-cut.invariant c.in-Some.ensures (sym c.eq.ensures ∙ c.if-eq.false)
    (sym c.event_in.ensures ∙ c.in-Some-event_in.is)
    (omega (arith, few, c.len-in-loop-cut.ensures, c.if-len.false, c.loop-cut.events.ok.0)))
