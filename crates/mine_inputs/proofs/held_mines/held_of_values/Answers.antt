use Rattle.fixed_worth.proofs.Common.{err_from_is_err_and}
use Rattle.mine_inputs.proofs.ValuedAnswers.{slopes_fail, valued_read}
use Rattle.mine_inputs.proofs.held_mines.held_of_values.Goals as goal

pub returns-in_err-predecessors-clause-read : goal.returns-in_err-predecessors-clause-read
returns-in_err-predecessors-clause-read c = λ factor s b v t.
    let read = c.args.read in
    let p = err_from_is_err_and c.from_residual.result c.from_residual.ensures.1 in
    rw (p.1, p.2) (slopes_fail s b v read.settings read.model read.values t c.in_err-predecessors.field-0.0
    c.in_err-predecessors.ensures.pairs)

pub returns-clause-read : goal.returns-clause-read
returns-clause-read c = λ factor s b v t.
    let read = c.args.read in
    let found = c.in_ok-predecessors.ensures.pairs in
    valued_read s b v read.settings read.model read.values t factor c.in_ok-predecessors.predecessors found.0 found.1
    found.2
