use Rattle.fixed_worth.proofs.Common.{◌∙◌, refl, sym, subst, err_from_is_err_and}
use Rattle.certificate_file.specs.declared.header.Price.{Price}
use Rattle.mine_inputs.specs.ReadMines.{AreRead}
use Rattle.mine_inputs.proofs.MinesRead.{read_as}
use Rattle.check_engines.proofs.Answered.{keeps_self}
use Rattle.solve_engines.specs.Prelude.{SolvesNet, held_net}
use Rattle.solve_engines.proofs.PlacedAnswers.{sent}
use Rattle.solve_engines.proofs.Solutions.{net_by, solved}
use Rattle.solve_engines.proofs.solving_engine.solve_held_by.Goals as goal

pub returns-in-Some-clause-answer : goal.returns-in-Some-clause-answer
returns-in-Some-clause-answer g c = λ texts read at named.
    let block = g.G.OrderedGroup.block_parts in
    let counts = g.G.OrderedGroup.counts in
    let name = g.G.OrderedGroup.name in
    let effort = c.args.effort in
    let pairs = c.args.mine.pairs in
    let nanos = c.as_slice.result.now in
    let net = held_net block pairs nanos in
    let placed = c.in-Some.ensures.certificate in
    let old = g.W.Write.contents c.args.out.now in
    let new = g.W.Write.contents c.write_placed.new.out in
    let by = net_by block counts texts name pairs nanos net (read_as texts _ _ pairs c.as_slice.ensures.value read)
    named placed.is_net refl c.in-Some.ensures.size in
    let P : Price → Type 0 = λ p. SolvesNet counts name p net effort.method effort.steps old new
    c.write_placed.result in
    solved block counts texts name net effort.method effort.steps named by old new c.write_placed.result
    (subst P at (sent counts name c.args.mine.price net effort.method effort.steps _ old new c.write_placed.result
    placed.certificate c.write_placed.ensures.sent))

pub returns-in_err-list-clause-answer : goal.returns-in_err-list-clause-answer
returns-in_err-list-clause-answer g c = λ texts read at named.
    let p = err_from_is_err_and c.from_residual.result c.from_residual.ensures.1 in
    rw (p.1, p.2) (tt, keeps_self (g.W.Write.contents c.args.out.now))

pub returns-in_err-rests-clause-answer : goal.returns-in_err-rests-clause-answer
returns-in_err-rests-clause-answer g c = λ texts read at named.
    let p = err_from_is_err_and c.from_residual-in_err-rests.result c.from_residual-in_err-rests.ensures.1 in
    rw (p.1, p.2) (tt, keeps_self (g.W.Write.contents c.args.out.now))

pub returns-clause-answer : goal.returns-clause-answer
returns-clause-answer g c = λ texts read at named.
    c.solve_by.ensures.answer texts
    (subst (AreRead texts c.args.mine.nanos.items) (sym (c.in_ok-rests.ensures ∙ c.in_ok-list.ensures)) read) at
    named
