use Rattle.fixed_worth.proofs.Common.{refl, subst, err_from_is_err_and}
use Rattle.ordered_group.specs.Block.{scaled_block, scaled_worth}
use Rattle.certificate_file.specs.declared.header.Price.{Price}
use Rattle.solve_engines.specs.Prelude.{IsSolution}
use Rattle.check_engines.specs.Prelude.{counts_by, IsGroupNamed}
use Rattle.mine_inputs.proofs.MinesRead.{read_as}
use Rattle.solve_engines.proofs.Solutions.{net_by}
use Rattle.lock_free_engine.specs.LockFreeSolving.{SolvesNetWithoutLock, lock_free_group}
use Rattle.lock_free_engine.proofs.MineAnswers.{solved_without_lock, unmade_without_lock}
use Rattle.lock_free_engine.proofs.LockFreeAnswers.{answered}
use Rattle.lock_free_engine.proofs.solving_engine.mine_by_lock_free_run.Goals as goal

pub returns-in_err-net-clause-answer : goal.returns-in_err-net-clause-answer
returns-in_err-net-clause-answer g c = λ texts read at.
    let named : IsGroupNamed lock_free_group scaled_block (counts_by lock_free_group) = record
    { block_is = refl; counts_is = refl; proves = c.greatest_set_is_best_pit.ensures } in
    let p = err_from_is_err_and c.from_residual.result c.from_residual.ensures.1 in
    rw (p.1, p.2)
    (unmade_without_lock scaled_block (counts_by lock_free_group) texts c.args.mine.rests c.as_slice.result.now
    c.args.effort.workers c.args.effort.steps (g.W.Write.contents c.args.out.now) c.in_err-net.field-0.0
    (read_as texts _ _ c.args.mine.rests c.as_slice.ensures.value read) named c.in_err-net.ensures)

pub returns-clause-answer : goal.returns-clause-answer
returns-clause-answer g c = λ texts read at.
    let named : IsGroupNamed lock_free_group scaled_block (counts_by lock_free_group) = record
    { block_is = refl; counts_is = refl; proves = c.greatest_set_is_best_pit.ensures } in
    let net = c.in_ok-net.net in
    let effort = c.args.effort in
    let by = net_by scaled_block (counts_by lock_free_group) texts lock_free_group c.args.mine.rests
    c.as_slice.result.now net (read_as texts _ _ c.args.mine.rests c.as_slice.ensures.value read) named
    c.worths-worths.ensures.net c.in_ok-net.ensures.0 c.in_ok-net.ensures.1 in
    let old = g.W.Write.contents c.args.out.now in
    let new = g.W.Write.contents c.write_answer.new.out in
    let P : Price → Type 0 = λ p. SolvesNetWithoutLock p net effort.workers effort.steps old new
    c.write_answer.result in
    solved_without_lock scaled_block texts net effort.workers effort.steps named by old new c.write_answer.result
    (subst P at (answered c.args.mine.price net effort.workers effort.steps old new (λ s. s.flow) (λ s. s.pit)
    (λ s. IsSolution scaled_worth net s.flow s.pit s.count s.worth) c.by_lock_free_run-found.result
    c.write_answer.result (λ s h. h.sound) c.by_lock_free_run-found.ensures c.write_answer.ensures.answer))
