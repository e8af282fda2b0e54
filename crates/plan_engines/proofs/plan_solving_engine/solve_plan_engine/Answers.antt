use Rattle.std.proofs.Common.{ℕ, List, Option, Err}
use Rattle.mine_inputs.specs.Prelude.{MineTexts}
use Rattle.plan_engines.specs.Prelude.{SolvesPlan}
use Rattle.schedule_engines.specs.declared.plan_fault.PlanFault.TheVariants as plan
use Rattle.planned_mine.specs.declared.bound_fault.BoundFault.TheVariants as bound
use Rattle.bound_engines.proofs.Answered.{always_pit, under_pit}
use Rattle.plan_engines.proofs.PlanSolved.{unsolved}
use Rattle.plan_engines.proofs.PlansFound.{Solves, found}
use Rattle.planned_mine.proofs.TextsBeside.{ForAll, of_read, whatever}
use Rattle.planned_mine.proofs.TextsFailing.{answers, beyond, of_beside, of_mine}
use Rattle.plan_engines.proofs.plan_solving_engine.solve_plan_engine.Goals as goal

pub returns-in-Err-clause-answer : goal.returns-in-Err-clause-answer
returns-in-Err-clause-answer g c =
    let i = c.args.inputs.now in
    let asked = c.args.asked in
    let w = g.W.Write.contents c.args.out.now in
    let fault = bound.Plan (plan.Engine c.in-Err.fault) in
    let Q : Option (List ℕ) → MineTexts → List ℕ → List ℕ
    → Type 0 = λ o texts p u. SolvesPlan texts p u o asked.effort.method asked.effort.steps w w (Err fault) in
    always_pit i.pit g.D.Read.remaining (λ o. ForAll i.mine i.beside g.D.Read.remaining asked.factor (Q o)) (λ o.
    whatever i.mine i.beside g.D.Read.remaining asked.factor (Q o)
    (λ texts p u. unsolved texts p u o asked.effort.method asked.effort.steps w fault))

pub returns-in-Err-beside_from-clause-answer : goal.returns-in-Err-beside_from-clause-answer
returns-in-Err-beside_from-clause-answer g c =
    let i = c.args.inputs.now in
    let asked = c.args.asked in
    let w = g.W.Write.contents c.args.out.now in
    let fault = bound.Plan c.in-Err-beside_from.fault in
    let Q : Option (List ℕ) → MineTexts → List ℕ → List ℕ
    → Type 0 = λ o texts p u. SolvesPlan texts p u o asked.effort.method asked.effort.steps w w (Err fault) in
    always_pit i.pit g.D.Read.remaining (λ o. ForAll i.mine i.beside g.D.Read.remaining asked.factor (Q o)) (λ o.
    whatever i.mine i.beside g.D.Read.remaining asked.factor (Q o)
    (λ texts p u. unsolved texts p u o asked.effort.method asked.effort.steps w fault))

pub returns-in-Err-plan_to_solve-clause-answer : goal.returns-in-Err-plan_to_solve-clause-answer
returns-in-Err-plan_to_solve-clause-answer g c =
    let i = c.args.inputs.now in
    let asked = c.args.asked in
    let w = g.W.Write.contents c.args.out.now in
    let fault = c.in-Err-plan_to_solve.fault in
    let Q : Option (List ℕ) → MineTexts → List ℕ → List ℕ
    → Type 0 = λ o texts p u. SolvesPlan texts p u o asked.effort.method asked.effort.steps w w (Err fault) in
    always_pit i.pit g.D.Read.remaining (λ o. ForAll i.mine i.beside g.D.Read.remaining asked.factor (Q o)) (λ o.
    whatever i.mine i.beside g.D.Read.remaining asked.factor (Q o)
    (λ texts p u. unsolved texts p u o asked.effort.method asked.effort.steps w fault))

pub returns-clause-answer : goal.returns-clause-answer
returns-clause-answer g c =
    let i = c.args.inputs.now in
    let left = g.D.Read.remaining in
    let mine = c.in-Ok.mine in
    let beside = c.in-Ok-beside_from.beside in
    let asked = c.args.asked in
    let method = asked.effort.method in
    let steps = asked.effort.steps in
    let old = g.W.Write.contents c.args.out.now in
    let new = g.W.Write.contents c.solve_found.new.out in
    let Q : Option (List ℕ) → MineTexts → List ℕ → List ℕ
    → Type 0 = λ o texts p u. SolvesPlan texts p u o method steps old new c.solve_found.result in
    under_pit i.pit left (Solves mine.worths mine.predecessors beside asked.factor method steps old new
    c.solve_found.result) (λ o. ForAll i.mine i.beside left asked.factor (Q o))
    (found mine.worths mine.predecessors beside asked.factor method steps old new c.solve_found.result i.pit left
    c.in-Ok-plan_to_solve.found c.in-Ok-plan_to_solve.ensures.is c.solve_found.ensures.answer)
    (λ o solves. of_read i.mine i.beside left asked.factor (Q o) mine.worths mine.predecessors c.len.result
    c.way_count-ways.result c.len.ensures.is c.way_count-ways.ensures.is beside c.in-Ok.ensures.read
    c.in-Ok-beside_from.ensures.read solves)

pub returns-in-Err-clause-fault : goal.returns-in-Err-clause-fault
returns-in-Err-clause-fault g c = of_mine c.args.inputs.now.mine c.args.inputs.now.beside g.D.Read.remaining
    c.args.asked.factor c.in-Err.fault c.in-Err.ensures.read

pub returns-in-Err-beside_from-clause-fault : goal.returns-in-Err-beside_from-clause-fault
returns-in-Err-beside_from-clause-fault g c =
    let mine = c.in-Ok.mine in
    of_beside c.args.inputs.now.mine c.args.inputs.now.beside g.D.Read.remaining c.args.asked.factor mine.worths
    mine.predecessors c.len.result c.way_count-ways.result c.len.ensures.is c.way_count-ways.ensures.is
    c.in-Ok.ensures.read c.in-Err-beside_from.fault c.in-Err-beside_from.ensures.read

pub returns-in-Err-plan_to_solve-clause-fault : goal.returns-in-Err-plan_to_solve-clause-fault
returns-in-Err-plan_to_solve-clause-fault g c = beyond c.args.inputs.now.mine c.args.inputs.now.beside
    g.D.Read.remaining c.args.asked.factor c.in-Err-plan_to_solve.fault c.in-Err-plan_to_solve.ensures.beyond

pub returns-clause-fault : goal.returns-clause-fault
returns-clause-fault g c = answers c.args.inputs.now.mine c.args.inputs.now.beside g.D.Read.remaining
    c.args.asked.factor c.solve_found.result c.solve_found.ensures.beyond
