use Rattle.std.proofs.Common.{◌<◌, Some, refl, sym, subst, length}
use Rattle.closure_net.specs.Network.{NetView}
use Rattle.boards.specs.Boards.{blocks_of_board}
use Rattle.boards.proofs.Alone.{still_idle_below}
use Rattle.boards.proofs.Ends.{ended}
use Rattle.boards.proofs.Records.{record_stays, record_served, record_ended}
use Rattle.boards.proofs.finishing.end_operation.Goals as goal

pub loop-board-init : goal.loop-board-init
loop-board-init g c = (
  record_stays c.args.board.now c.args.steps c.requires.within,
  c.requires.idle,
  c.len-blocks.ensures.made,
)

pub loop-board-preserved : goal.loop-board-preserved
loop-board-preserved g c =
    let i = c.loop-board.invariant in
    let s = c.in-Stepped in
    let old = c.loop-board.board in
    let new = c.turn.new.self in
    let inside : c.args.block < blocks_of_board old.board = subst (λ (n : NetView). c.args.block < length n.worths)
    (sym i.0.board.net_is) c.requires.inside in (
      record_served c.args.board.now old new (Some c.args.block) c.args.block c.args.steps s.block s.more
          s.ensures.made.is_board i.0 s.ensures.turn s.ensures.writes,
      still_idle_below old.board new.board c.args.block c.args.steps c.args.block s.block s.more inside
          (c.loop-board-test.ensures.0 refl) i.1 s.ensures.turn,
      s.ensures.made,
    )

pub returns-in-Ended-clause-goes_on : goal.returns-in-Ended-clause-goes_on
returns-in-Ended-clause-goes_on g c =
    record_ended c.args.board.now c.loop-board.board c.turn.new.self (Some c.args.block) c.args.block c.args.steps
    c.in-Ended.end c.loop-board.invariant.0 c.in-Ended.ensures.turn c.in-Ended.ensures.writes

pub returns-in-Ended-clause-end : goal.returns-in-Ended-clause-end
returns-in-Ended-clause-end g c =
    ended c.args.board.now.board c.loop-board.board.board c.turn.new.self.board (Some c.args.block) c.args.block
    c.args.steps c.requires.counted c.loop-board.invariant.0.board c.in-Ended.ensures.made c.in-Ended.end
    c.in-Ended.ensures.turn
