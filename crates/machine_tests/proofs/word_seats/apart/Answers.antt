use Rattle.std.proofs.Common.{arith}
use Rattle.word_runner.proofs.SeatLists.{first_two}
use Rattle.word_runner.proofs.Ends.{last_two}
use Rattle.machine_tests.proofs.word_seats.apart.Goals as goal

pub returns : goal.returns
returns c =
    let size = c.requires.size in
    first_two c.args._words.now c.args.seats.items c.in-Some-pop.left c.in-Some.right
    (last_two _ _ _ _ _ c.in-Some.ensures.items c.in-Some-pop.ensures.items (omega (arith, size))) c.requires
