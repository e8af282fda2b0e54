use Rattle.fixed_worth.proofs.Common.{arith, rules, vec_capacity}
use Rattle.closure_net.proofs.Marks.{search_none}
use Rattle.closure_net.proofs.search.Search.new.Goals as goal

pub invariant_of-result : goal.invariant_of-result
invariant_of-result c = search_none c.args.n (vec_capacity c.in_ok-found.found) c.in_ok-marks.marks.items
    c.in_ok-found.found.items c.requires (omega (arith, c.in_ok-found.ensures.exact))
    (c.in_ok-marks.ensures.items_if_clones_equal (λ y h. search rules)) c.in_ok-found.ensures.items
