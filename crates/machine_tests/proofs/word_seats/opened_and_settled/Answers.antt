use Rattle.word_runner.proofs.SeatLists.{first_seats}
use Rattle.machine_tests.proofs.word_seats.opened_and_settled.Goals as goal

pub settle-requires : goal.settle-requires
settle-requires c = let o = c.in_ok-words.ensures.answer in first_seats c.in_ok-words.words c.args.workers
    c.in_ok-words.seats.items o.workers_are o.all
