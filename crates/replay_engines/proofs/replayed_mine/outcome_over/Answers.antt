use Rattle.std.proofs.Common.{refl}
use Rattle.async_step.specs.Views.{state_of}
use Rattle.replay_engines.proofs.replayed_mine.outcome_over.Goals as goal

pub returns-in-Ok-into_flow : goal.returns-in-Ok-into_flow
returns-in-Ok-into_flow g c = record {
  comes = λ texts by named.
      let quiet = c.in-Ok-into_flow.ensures.0 in
      let amounts = c.in-Ok-into_flow.ensures.1 in
      let run = c.in-Ok.ensures.0 in
      let solved = c.quiet_flow_is_greatest.ensures c.args.net.now c.args.events.now (state_of c.in-Ok.state)
      c.in-Ok-into_flow.flow by.is_net.rests.known run quiet amounts in (
        refl,
        (
          c.in-Ok-into_flow.flow,
          record
              { state = state_of c.in-Ok.state; run = run; quiet = quiet; amounts = amounts },
          c.in_ok-judgement-in-Ok-into_flow.ensures texts solved by named,
        ),
      );
}
