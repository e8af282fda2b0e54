use Rattle.std.proofs.Common.{sym, subst}
use Rattle.boards.specs.Records.{RecordView, RecordGoesOn}
use Rattle.boards.proofs.Records.{record_further}
use Rattle.boards.proofs.finishing.finish_recorded.Goals.{in-Some, in-None}
use Rattle.boards.proofs.finishing.finish_recorded.Goals as goal

pub returns-clause-goes_on : goal.returns-clause-goes_on
returns-clause-goes_on g c =
    let P : RecordView → Type 0 = λ r. RecordGoesOn c.args.board.now r c.args.steps in
    elim c.match-end_operations.branch [
      | in-Some w ↦ subst P (sym w.board-is) w.in-Some.ensures.goes_on
      | in-None w ↦ subst P (sym w.board-is)
          (record_further c.args.board.now c.end_operations.new.board w.take_turns-end.new.board c.args.steps
          w.in-None.ensures.goes_on w.take_turns-end.ensures.goes_on)
    ]
