use Rattle.workers.proofs.AuditEnds.{left, lost, no_thread}
use Rattle.workers.proofs.auditing.audited_after.Goals as goal

pub returns-then-all : goal.returns-then-all
returns-then-all g c =
    left c.into_inner-board.result c.args.net.now c.args.limit c.args.room c.most_steps-steps.result
    c.most_room-most.result c.count.result c.room.result c.len-blocks.ensures.audited c.most_steps-steps.ensures
    c.most_room-most.ensures.is
    (c.is_over.ensures.0 c.if-is_over.true) c.count.ensures c.if-count-steps.true c.room.ensures c.if-room-most.true

pub returns-else-all : goal.returns-else-all
returns-else-all g c =
    let is = left c.into_inner-board.result c.args.net.now c.args.limit c.args.room c.most_steps-steps.result
    c.most_room-most.result c.count.result c.room.result c.len-blocks.ensures.audited c.most_steps-steps.ensures
    c.most_room-most.ensures.is
    (c.is_over.ensures.0 c.if-is_over.true) c.count.ensures c.if-count-steps.true c.room.ensures c.if-room-most.true in
    no_thread c.into_inner-board.result c.args.net.now c.args.limit c.args.room _ _ is c.ended.ensures.fault
    c.ended.ensures.history

pub returns-else-is_over : goal.returns-else-is_over
returns-else-is_over g c =
    lost c.args.net.now c.args.limit c.args.room c.serve_all-all.result _ _ _
    c.lost_by.ensures c.without_steps-else-is_over.ensures.fault c.without_steps-else-is_over.ensures.history
