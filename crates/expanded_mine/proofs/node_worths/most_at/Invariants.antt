use Rattle.fixed_worth.proofs.Common.{◌≡◌, ℕ}
use Rattle.expanded_mine.specs.Prelude.{figures_by, left_by, most_of}
use Rattle.expanded_mine.proofs.node_worths.most_at.Given as goal

abbrev pub invariant-loop-d : goal.invariant-loop-d
invariant-loop-d l = l.most ≡ most_of (λ (e : ℕ). left_by (figures_by l.figures l.others e) l.prices l.b l.t) l.d
