use Rattle.std.proofs.Common.{arith}
use Rattle.prec_file.proofs.RowChecks.{row_rising, row_apart}
use Rattle.prec_file.proofs.predecessors_builder.row_rises.Goals as goal

pub returns-clause-rising : goal.returns-clause-rising
returns-clause-rising c = λ t. row_rising c.args.row.now c.args.block c.loop-predecessor.predecessor-index
    c.loop-predecessor.least c.loop-predecessor.invariant.so_far (omega arith)

pub returns-clause-apart : goal.returns-clause-apart
returns-clause-apart c = λ t. row_apart c.args.row.now c.args.block c.loop-predecessor.predecessor-index
    c.loop-predecessor.least c.loop-predecessor.invariant.so_far (omega arith)
