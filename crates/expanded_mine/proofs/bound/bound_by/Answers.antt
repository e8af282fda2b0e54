use Rattle.fixed_worth.proofs.Common.{rules, ◌≡◌, ◌+ℤ◌, arith, ints, SFits, w128}
use Rattle.expanded_mine.proofs.Bounds.{bound_holds}
use Rattle.expanded_mine.proofs.bound.bound_by.Goals as goal

pub returns-in-Some-sum_of-clause-bound : goal.returns-in-Some-sum_of-clause-bound
returns-in-Some-sum_of-clause-bound c = λ others pairs waits lag chosen are rich is way known schedule feasible later.
    let all : SFits w128 c.in-Some-sum_of.bound = search rules in
    let first : SFits w128 c.args.worth = search rules in
    let second : SFits w128 c.in-Some.capacities = search rules in
    let sum : c.in-Some-sum_of.bound ≡ c.args.worth +ℤ c.in-Some.capacities = omega
    (arith, ints, c.in-Some-sum_of.ensures, all, first, second) in
    let holds = bound_holds c.args.figures.now others c.args.prices.now pairs waits lag chosen c.args.worth
    c.in-Some.capacities c.in-Some-sum_of.bound are rich is c.in-Some.ensures sum way known schedule feasible
    later in
    omega (arith, ints, holds, all)
