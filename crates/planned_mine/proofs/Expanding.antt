-- From the figures of what was read to its nodes.
use Rattle.fixed_worth.proofs.Common.{◌≡◌, ℕ, ◌*◌, ℤ, List, length, ap, subst, ◌∙◌, arith}
use Rattle.prec_file.specs.Rests.{RestsView}
use Rattle.periods_file.specs.Periods.{PeriodsView}
use Rattle.expanded_mine.specs.Prelude.{AreNodePairs, AreNodeWorths}
use Rattle.planned_mine.specs.declared.planned.Figured.{Figured}
use Rattle.planned_mine.specs.Prelude.{IsExpanded, IsFigured}

pub expanded_by : (rests : RestsView) (ways : ℕ) (worth : ℕ → ℕ → ℤ) (used : ℕ → ℕ → ℕ → ℤ) (said : PeriodsView)
    (waits : RestsView) (x : Figured) (periods : ℕ) (pairs : RestsView) (worths : List ℤ)
    → IsFigured rests ways worth used said waits x → periods ≡ length x.figures.weights
    → (pairs.blocks ≡ periods * x.predecessors.blocks)
    × AreNodePairs x.predecessors.blocks periods x.waits.lag x.waits.pairs.pairs x.predecessors.pairs pairs.pairs
    → AreNodeWorths x.figures x.others.items x.prices.items x.waits.lag x.waits.pairs.pairs worths
    → IsExpanded rests ways worth used said waits x.figures x.others.items x.prices.items pairs worths
expanded_by rests ways worth used said waits x periods pairs worths h e p w =
    let f = x.figures in
    let others = x.others.items in
    let listed = x.prices.items in
    let count : periods ≡ length said.weights = e ∙ ap length (h.figures.each 0 (omega arith)).weights in
    let P : ℕ → Type 0 = λ k. (pairs.blocks ≡ k * x.predecessors.blocks)
    × AreNodePairs x.predecessors.blocks k x.waits.lag x.waits.pairs.pairs x.predecessors.pairs pairs.pairs in
    let Q : RestsView → Type 0 = λ b. (pairs.blocks ≡ length said.weights * b.blocks)
    × AreNodePairs b.blocks (length said.weights) x.waits.lag x.waits.pairs.pairs b.pairs pairs.pairs in
    let R : RestsView → Type 0 = λ a. AreNodePairs rests.blocks (length said.weights) x.waits.lag a.pairs rests.pairs
    pairs.pairs × AreNodeWorths f others listed x.waits.lag a.pairs worths in
    let S : ℕ → Type 0 = λ k. AreNodePairs rests.blocks (length said.weights) k waits.pairs rests.pairs pairs.pairs
    × AreNodeWorths f others listed k waits.pairs worths in
    let q = subst Q h.same_pairs (subst P count p) in
    let s = subst S h.same_lag (subst R h.same_waits (q.1, w)) in
    record { figures = h.figures; prices = h.prices; blocks = q.0; pairs = s.0; worths = s.1 }
