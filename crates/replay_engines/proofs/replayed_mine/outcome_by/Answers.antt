use Rattle.std.proofs.lemmas.Result.{err_from_is_err_and}
use Rattle.mine_inputs.proofs.MinesRead.{read_as}
use Rattle.solve_engines.proofs.Solutions.{net_by}
use Rattle.replay_engines.proofs.Comings.{no_net}
use Rattle.replay_engines.proofs.replayed_mine.outcome_by.Goals as goal

pub returns-in_err-net-clause-comes : goal.returns-in_err-net-clause-comes
returns-in_err-net-clause-comes g c = λ texts read named.
    let p = err_from_is_err_and c.from_residual.result c.from_residual.ensures.1 in
    rw (p.1, p.2)
    (no_net g.G.OrderedGroup.block_parts g.G.OrderedGroup.counts texts g.G.OrderedGroup.name c.args.mine.rests
    c.as_slice.result.now c.in_err-net.field-0.0
    (read_as texts _ _ c.args.mine.rests c.as_slice.ensures.value read) named c.in_err-net.ensures)

pub returns-clause-comes : goal.returns-clause-comes
returns-clause-comes g c = λ texts read named.
    let by = net_by g.G.OrderedGroup.block_parts g.G.OrderedGroup.counts texts g.G.OrderedGroup.name c.args.mine.rests
    c.as_slice.result.now c.in_ok-net.net (read_as texts _ _ c.args.mine.rests c.as_slice.ensures.value read)
    named c.worths-worths.ensures.net c.in_ok-net.ensures.0 c.in_ok-net.ensures.1 in
    record { net = c.in_ok-net.net; by = by; is = c.in_ok-outcome_over.ensures.comes texts by named }
