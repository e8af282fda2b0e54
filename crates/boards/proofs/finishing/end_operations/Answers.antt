use Rattle.std.proofs.Common.{arith}
use Rattle.boards.proofs.Records.{record_stays, record_further}
use Rattle.boards.proofs.finishing.end_operations.Goals as goal

pub loop-block-init : goal.loop-block-init
loop-block-init g c = (
  record_stays c.args.board.now c.args.steps c.requires.within,
  λ b below. absurd
      (omega (arith, below)),
)

pub loop-block-preserved : goal.loop-block-preserved
loop-block-preserved g c = (
  record_further c.args.board.now c.loop-block.board c.end_operation.new.board c.args.steps c.loop-block.invariant.0
      c.end_operation.ensures.goes_on,
  c.in_default.ensures.end,
)

pub returns-in-Some-clause-goes_on : goal.returns-in-Some-clause-goes_on
returns-in-Some-clause-goes_on g c =
    record_further c.args.board.now c.loop-block.board c.end_operation.new.board c.args.steps c.loop-block.invariant.0
    c.end_operation.ensures.goes_on
