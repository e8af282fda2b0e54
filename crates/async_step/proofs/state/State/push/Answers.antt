use Rattle.std.proofs.Common.{subst, sym}
use Rattle.closure_net.specs.declared.port.PortKind.{PortKind}
use Rattle.machine_law.specs.Steps.{after_push_by}
use Rattle.async_step.specs.Prelude.{state_of, Leads}
use Rattle.async_step.proofs.state.State.push.Goals as goal

pub returns-in-Sink : goal.returns-in-Sink
returns-in-Sink g c =
    subst (λ (k : PortKind). Leads c.args.net.now c.args.self.now
    (after_push_by (state_of c.args.self.now) c.args.block (g.G.OrderedGroup.parts_of c.args.amount) c.args.port
    k) c.move_to_sink.new.self c.move_to_sink.result) (sym c.in-Sink.is) c.move_to_sink.ensures

pub returns-in-Forward : goal.returns-in-Forward
returns-in-Forward g c =
    subst (λ (k : PortKind). Leads c.args.net.now c.args.self.now
    (after_push_by (state_of c.args.self.now) c.args.block (g.G.OrderedGroup.parts_of c.args.amount) c.args.port
    k) c.move_forward.new.self c.move_forward.result) (sym c.in-Forward.is) c.move_forward.ensures

pub returns-in-Backward : goal.returns-in-Backward
returns-in-Backward g c =
    subst (λ (k : PortKind). Leads c.args.net.now c.args.self.now
    (after_push_by (state_of c.args.self.now) c.args.block (g.G.OrderedGroup.parts_of c.args.amount) c.args.port
    k) c.move_back.new.self c.move_back.result) (sym c.in-Backward.is) c.move_back.ensures

pub returns-in-Source : goal.returns-in-Source
returns-in-Source g c =
    subst (λ (k : PortKind). Leads c.args.net.now c.args.self.now
    (after_push_by (state_of c.args.self.now) c.args.block (g.G.OrderedGroup.parts_of c.args.amount) c.args.port
    k) c.move_to_source.new.self c.move_to_source.result) (sym c.in-Source.is) c.move_to_source.ensures
