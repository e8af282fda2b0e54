use Rattle.async_step.specs.Answers.{IsStateOf}
use Rattle.machine_tests.proofs.steps.make_row.Given as goal

abbrev pub invariant-loop-kind : goal.invariant-loop-kind
invariant-loop-kind g l = IsStateOf l.fn.net l.state
