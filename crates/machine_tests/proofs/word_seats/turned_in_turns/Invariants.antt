use Rattle.word_runner.specs.Seats.{IsServing}
use Rattle.machine_tests.proofs.word_seats.turned_in_turns.Given as goal

abbrev pub invariant-loop-turn : goal.invariant-loop-turn
invariant-loop-turn l = IsServing l.words.shared 0 2 l.left.seat l.left.at
    × IsServing l.words.shared 1 2 l.right.seat l.right.at
