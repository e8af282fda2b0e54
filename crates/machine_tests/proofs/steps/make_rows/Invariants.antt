use Rattle.async_step.specs.Answers.{IsStateOf}
use Rattle.machine_tests.proofs.steps.make_rows.Given as goal

abbrev pub invariant-loop-row : goal.invariant-loop-row
invariant-loop-row g l = IsStateOf l.fn.net l.state
