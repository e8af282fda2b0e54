use Rattle.fixed_worth.proofs.Common.{rules, ◌∙◌, ◌++◌, sym, arith, length-append}
use Rattle.word_runner.specs.Openings.{AreNeitherOneNorTwo}
use Rattle.word_runner.proofs.Ends.{on_sides, fault_ends, solved_ends}
use Rattle.word_runner.proofs.runs.solve_words.Goals as goal

pub returns-then-workers-eq1 : goal.returns-then-workers-eq1
returns-then-workers-eq1 g c =
    let net = c.args.net.now in
    let begun = c.in-Ok.ensures in
    let w = c.in-Ok.begun.0 in
    let good : ¬ (AreNeitherOneNorTwo c.args.workers) = search rules in
    let ran = c.serve-ran.ensures in
    on_sides _ _ _ _ c.solved_by_one.result
    (λ solved h. solved_ends net w.cut c.args.workers good begun.small begun.cut c.args.steps
    c.serve-ran.result.seat.place.me.0.made solved.flow solved.steps c.worths-net.ensures.net h.0
    (ran.made h.2 ∙ sym h.1) (let e = h.1 in let k = ran.within in omega (arith, e, k)))
    (fault_ends net w.cut c.args.workers good begun.small begun.cut)
    c.solved_by_one.ensures

pub returns-in-Some : goal.returns-in-Some
returns-in-Some g c =
    let net = c.args.net.now in
    let begun = c.in-Ok.ensures in
    let w = c.in-Ok.begun.0 in
    let good : ¬ (AreNeitherOneNorTwo c.args.workers) = search rules in
    let left = c.in-Some.ensures.0 in
    let right = c.in-Some.ensures.1 in
    let a = c.in-Some.left.seat.place.me.0.made in
    let b = c.in-Some.right.seat.place.me.0.made in
    on_sides _ _ _ _ c.solved_by_two.result
    (λ solved h. solved_ends net w.cut c.args.workers good begun.small begun.cut c.args.steps (a ++ b) solved.flow
    solved.steps c.worths-net.ensures.net h.0
    (let e = length-append a b in let x = left.made h.2 in let y = right.made h.3 in let z = h.1 in omega
    (arith, e, x, y, z)) (let e = h.1 in let x = left.within in let y = right.within in omega (arith, e, x, y)))
    (fault_ends net w.cut c.args.workers good begun.small begun.cut)
    c.solved_by_two.ensures
