use Rattle.word_runner.specs.Runs.{IsRound}
use Rattle.word_runner.proofs.serving.serve.Given as goal

abbrev pub invariant-loop-turn : goal.invariant-loop-turn
invariant-loop-turn g l = IsRound l.words l.number l.round.seat l.round.at l.round.steps l.turn
