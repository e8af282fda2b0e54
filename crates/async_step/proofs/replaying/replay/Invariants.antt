use Rattle.std.proofs.Common.{take}
use Rattle.machine_law.specs.Prelude.{opening, Run}
use Rattle.async_step.specs.Prelude.{state_of, IsStateOf}
use Rattle.async_step.proofs.replaying.replay.Given as goal

abbrev pub invariant-loop-i : goal.invariant-loop-i
invariant-loop-i g l = record {
  run : Run l.fn.net (opening l.fn.net) (take l.i l.events) (state_of l.state);
  over : IsStateOf l.fn.net l.state;
}
