use Rattle.std.proofs.Common.{subst, sym}
use Rattle.closure_net.specs.declared.port.PortKind.{PortKind}
use Rattle.machine_law.specs.Steps.{after_give_by}
use Rattle.async_step.specs.Prelude.{state_of, Leads}
use Rattle.async_step.proofs.state.State.give.Goals as goal

pub returns-in-Sink : goal.returns-in-Sink
returns-in-Sink g c =
    subst (λ (k : PortKind). Leads c.args.net.now c.args.self.now
    (after_give_by (state_of c.args.self.now) c.args.block (g.G.OrderedGroup.parts_of c.args.amount) c.args.port
    k) c.arrive_at_sink.new.self c.arrive_at_sink.result) (sym c.in-Sink.is) c.arrive_at_sink.ensures

pub returns-in-Forward : goal.returns-in-Forward
returns-in-Forward g c =
    subst (λ (k : PortKind). Leads c.args.net.now c.args.self.now
    (after_give_by (state_of c.args.self.now) c.args.block (g.G.OrderedGroup.parts_of c.args.amount) c.args.port
    k) c.arrive_at_block.new.self c.arrive_at_block.result) (sym c.in-Forward.is) c.arrive_at_block.ensures

pub returns-in-Backward : goal.returns-in-Backward
returns-in-Backward g c =
    subst (λ (k : PortKind). Leads c.args.net.now c.args.self.now
    (after_give_by (state_of c.args.self.now) c.args.block (g.G.OrderedGroup.parts_of c.args.amount) c.args.port
    k) c.arrive_at_block-in-Backward.new.self c.arrive_at_block-in-Backward.result) (sym c.in-Backward.is)
    c.arrive_at_block-in-Backward.ensures

pub returns-in-Source : goal.returns-in-Source
returns-in-Source g c =
    subst (λ (k : PortKind). Leads c.args.net.now c.args.self.now
    (after_give_by (state_of c.args.self.now) c.args.block (g.G.OrderedGroup.parts_of c.args.amount) c.args.port
    k) c.arrive_at_source.new.self c.arrive_at_source.result) (sym c.in-Source.is) c.arrive_at_source.ensures
