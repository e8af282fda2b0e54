use Rattle.std.proofs.Common.{◌≡◌, ◌+◌, ◌<◌, ◌≤◌, length, get_or, arith, subst, ap, ◌∙◌}
use Rattle.prec_file.specs.declared.limits.TheConstants.{MOST_PAIRS}
use Rattle.prec_file.specs.Rests.{RestsView, IsRising, first_of}
use Rattle.prec_file.proofs.Order.{at_zero}
use Rattle.prec_file.proofs.Finding.{hit, miss}
use Rattle.prec_file.proofs.predecessors.Predecessors.find.Goals as goal
use Rattle.prec_file.proofs.predecessors.Predecessors.find.Goals.{In_ok-i}

-- the place that was found, after b's first pair
hit_at : (c : In_ok-i) → (c.index-first.result.now + c.in_ok-i.i < length c.args.self.now.pairs)
    × (get_or c.args.self.now.pairs (c.index-first.result.now + c.in_ok-i.i) (0, 0) ≡ (c.args.b, c.args.p))
    × (length c.args.self.now.pairs ≤ MOST_PAIRS)
hit_at c =
    let up = subst (λ (v : RestsView). IsRising v.pairs) c.self.view_is c.self.invariant.rests.rising in
    let few = subst (λ (v : RestsView). length v.pairs ≤ MOST_PAIRS) c.self.view_is c.self.invariant.few in
    let starts = c.self.invariant.firsts in
    let known : c.args.b < c.self.inside.blocks = omega (arith, c.requires, ap (λ v. v.blocks) c.self.view_is) in
    let first : c.index-first.result.now ≡ first_of c.args.self.now.pairs c.args.b =
    at_zero c.self.inside.blocks c.args.b _ c.self.inside.firsts.items starts.size (omega arith) c.index-first.ensures
    ∙ starts.at c.args.b (omega arith) ∙ ap (λ v. first_of v.pairs c.args.b) c.self.view_is in
    let h = hit c.args.self.now.pairs up c.args.b c.args.p c.in_ok-i.i c.binary_search.result c.in_ok-i.ensures.value
    c.above.result.now c.above.ensures c.binary_search.ensures.position in
    rw first (h.0, h.1, few)

pub overflow_cast-result : goal.overflow_cast-result
overflow_cast-result c = let h = hit_at c in omega (arith, h.0, h.2)

pub overflow_add-result : goal.overflow_add-result
overflow_add-result c = let h = hit_at c in omega (arith, h.0, h.2)

pub returns : goal.returns
returns c = let h = hit_at c in (h.0, h.1)

pub returns-in_err-i : goal.returns-in_err-i
returns-in_err-i c =
    let up = subst (λ (v : RestsView). IsRising v.pairs) c.self.view_is c.self.invariant.rests.rising in
    rw c.from_residual.ensures
    (miss c.args.self.now.pairs up c.args.b c.args.p c.binary_search.result c.in_err-i.ensures.value
    c.above.result.now c.above.ensures c.binary_search.ensures.position)
