use Rattle.fixed_worth.proofs.Common.{rules, ◌≡◌, ℕ, ◌+◌, ℤ, pos, ◌+ℤ◌, Bool, cond, nat_lt, length, FitsSigned, w128}
use Rattle.fixed_worth.proofs.Common.{to_z, of_z, to_z-of_z, add-one, ap, ap₂, sym, subst, ◌∙◌}
use Rattle.ordered_group.specs.Sets.{worth_in}
use Rattle.production_figures.specs.Figures.{value_by}
use Rattle.schedule_value.specs.Prelude.{IsWithin, period_by}
use Rattle.schedule_value.proofs.worth.npv_at.Goals as goal

pub loop-b-preserved : goal.loop-b-preserved
loop-b-preserved c =
    let f = c.args.figures.now in
    let s = period_by c.args.schedule.now in
    let v : ℕ → ℤ = λ b. value_by f b (s b) in
    let e : ℕ → Bool = λ b. nat_lt (s b) (length f.weights) in
    let r = c.with_value-sum.result in
    let fits : FitsSigned w128 r = search rules in
    let same : to_z w128 (of_z w128 r) ≡ r = to_z-of_z w128 r fits in
    let more : worth_in v e (c.loop-b.b + 1) ≡ worth_in v e c.loop-b.b +ℤ cond (e c.loop-b.b) (v c.loop-b.b)
    (pos 0) = ap (worth_in v e) (add-one c.loop-b.b) in
    let value : c.value_if_dug-value.result ≡ cond (e c.loop-b.b) (v c.loop-b.b)
    (pos 0) = c.value_if_dug-value.ensures.is in
    let whole : FitsSigned w128 c.value_if_dug-value.result = search rules in
    let sum : r ≡ to_z w128 c.loop-b.sum-bits +ℤ c.value_if_dug-value.result = c.with_value-sum.ensures.is
    ∙ ap (λ (y : ℤ). to_z w128 c.loop-b.sum-bits +ℤ y) (to_z-of_z w128 c.value_if_dug-value.result whole) in
    record {
      is = same ∙ sum ∙ ap₂ (λ (x y : ℤ). x +ℤ y) c.loop-b.invariant.is value ∙ sym more;
      bound = subst (IsWithin (c.loop-b.b + 1)) (sym same) c.with_value-sum.ensures.bound;
    }
