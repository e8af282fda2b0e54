use Rattle.fixed_worth.proofs.Common.{◌≡◌, ◌≤◌, List, true, ap, sym, subst, ◌∙◌, arith, vec_capacity}
use Rattle.machine_law.specs.declared.events.Event.{Event}
use Rattle.boards.specs.Prelude.{IsTurn, RecordView, record_view, RecordsTurns, written_by, events_after, Writes}
use Rattle.boards.proofs.Ends.{turn_of_step}
use Rattle.boards.proofs.Records.{room_due, written_is, recorded}
use Rattle.boards.proofs.common_board.Recorded.turn.Goals as goal

pub write_down-requires : goal.write_down-requires
write_down-requires g c e =
    let m = c.self.inside in
    let old : RecordView = record_view m.board m.events.items m.records m.room in
    let room : old.records ≡ true
    → c.args.steps ≤ old.room = subst (λ (v : RecordView). v.records ≡ true → c.args.steps ≤ v.room)
    (sym c.self.view_is) c.requires.room in
    let due = room_due old c.args.own c.args.from c.args.steps c.in-Ok.block (vec_capacity m.events) c.self.invariant
    c.in-Ok.ensures.due room e in
    omega (arith, due)

pub invariant_of-self : goal.invariant_of-self
invariant_of-self g c =
    let m = c.self.inside in
    let old : RecordView = record_view m.board m.events.items m.records m.room in
    let turn = turn_of_step m.board c.serve-turn.new.self c.args.own c.args.from c.args.steps c.in-Ok.block
    c.serve-turn.result c.in-Ok.ensures.due c.serve-turn.ensures.turn in
    let events : c.write_down.new.events.items ≡ events_after old c.serve-turn.result =
    c.write_down.ensures.events
    ∙ ap (λ e. written_by m.records m.events.items e c.serve-turn.result) c.next_event-event.ensures
    ∙ written_is old c.in-Ok.block c.serve-turn.new.self c.serve-turn.result c.serve-turn.ensures.turn in
    let new : RecordView = record_view c.serve-turn.new.self c.write_down.new.events.items m.records m.room in
    subst (λ k. RecordsTurns new k) (sym c.write_down.ensures.room)
    (recorded old new c.args.own c.args.from c.args.steps c.serve-turn.result (vec_capacity m.events) c.self.invariant
    c.serve-turn.ensures.board turn
    (ap (λ (xs : List Event). record_view c.serve-turn.new.self xs m.records m.room) events))

pub returns-clause-turn : goal.returns-clause-turn
returns-clause-turn g c =
    subst (λ (r : RecordView). IsTurn r.board c.args.own c.args.from c.args.steps c.serve-turn.new.self
    c.serve-turn.result) c.self.view_is
    (turn_of_step c.self.inside.board c.serve-turn.new.self c.args.own c.args.from c.args.steps c.in-Ok.block
    c.serve-turn.result c.in-Ok.ensures.due c.serve-turn.ensures.turn)

pub returns-clause-writes : goal.returns-clause-writes
returns-clause-writes g c =
    let m = c.self.inside in
    let old : RecordView = record_view m.board m.events.items m.records m.room in
    let events : c.write_down.new.events.items ≡ events_after old c.serve-turn.result =
    c.write_down.ensures.events
    ∙ ap (λ e. written_by m.records m.events.items e c.serve-turn.result) c.next_event-event.ensures
    ∙ written_is old c.in-Ok.block c.serve-turn.new.self c.serve-turn.result c.serve-turn.ensures.turn in
    let new : RecordView = record_view c.serve-turn.new.self c.write_down.new.events.items m.records m.room in
    subst (λ (r : RecordView). Writes r c.serve-turn.result new) c.self.view_is
    (ap (λ (xs : List Event). record_view c.serve-turn.new.self xs m.records m.room) events)

pub returns-clause-made : goal.returns-clause-made
returns-clause-made g c = (invariant_of-self g c).turns

pub returns-clause-events : goal.returns-clause-events
returns-clause-events g c = (invariant_of-self g c).made
