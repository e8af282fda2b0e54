use Rattle.fixed_worth.proofs.Common.{◌≡◌, ℕ, ℤ, ◌-ℤ◌, ◌++◌, List, sym, ◌∙◌, rules, subst, FitsSigned, w128, Appends}
use Rattle.fixed_worth.proofs.Common.{to_z-of_z, err_from_is_err_and}
use Rattle.check_engines.specs.Checking.{LineFails}
use Rattle.design_engines.specs.Prelude.{best_line, DesignView, design_text, design_view}
use Rattle.design_engines.specs.Comparisons.ComparedView.{beside}
use Rattle.design_engines.proofs.Compared.{compared, gap_leaves, compared_failed}
use Rattle.design_engines.proofs.compared_lines.tell_gap.Goals as goal

same_less : (a b x y : ℤ) → a ≡ x → b ≡ y → (a -ℤ b) ≡ (x -ℤ y)
same_less a b x y p q = λ i. p i -ℤ q i

same_text : (v : DesignView) (count : ℕ) (a b x y : ℤ) → a ≡ x → b ≡ y
    → (design_text v ++ best_line count a b) ≡ (design_text v ++ best_line count x y)
same_text v count a b x y p q = λ i. design_text v ++ best_line count (p i) (q i)

pub returns-in-None-clause-answer : goal.returns-in-None-clause-answer
returns-in-None-clause-answer g c = λ texts design text name valued best.
    let v = design_view c.args.valued.now in
    let f : FitsSigned w128 c.args.worth = search rules in
    let h : FitsSigned w128 c.args.valued.now.worth = search rules in
    let less = same_less _ _ c.args.worth v.worth (to_z-of_z w128 c.args.worth f)
    (to_z-of_z w128 c.args.valued.now.worth h) in
    gap_leaves texts design text v name c.args.count c.args.worth (g.W.Write.contents c.args.out.now) valued best
    (λ k. c.in-None.ensures (subst (λ (z : ℤ). FitsSigned w128 z) (sym less) k))

pub returns-in_err-write_compared-clause-answer : goal.returns-in_err-write_compared-clause-answer
returns-in_err-write_compared-clause-answer g c = λ texts design text name valued best.
    let v = design_view c.args.valued.now in
    let f : FitsSigned w128 c.args.worth = search rules in
    let h : FitsSigned w128 c.args.valued.now.worth = search rules in
    let k : FitsSigned w128 c.in-Some.gap = search rules in
    let less = same_less _ _ c.args.worth v.worth (to_z-of_z w128 c.args.worth f)
    (to_z-of_z w128 c.args.valued.now.worth h) in
    let P : List ℕ → Type 0 = λ t. LineFails (g.W.Write.contents c.args.out.now)
    (g.W.Write.contents c.write_compared.new.out) t c.in_err-write_compared.field-0.0 in
    let p = err_from_is_err_and c.from_residual.result c.from_residual.ensures.1 in
    rw (p.1, p.2)
    (compared_failed texts design text (beside v c.args.count c.args.worth c.in-Some.gap)
    (g.W.Write.contents c.args.out.now) (g.W.Write.contents c.write_compared.new.out)
    c.in_err-write_compared.field-0.0
    (compared texts design text v name c.args.count c.args.worth c.in-Some.gap valued best (c.in-Some.ensures.1 ∙ less))
    (subst P (same_text v c.args.count _ _ c.args.worth c.in-Some.gap (to_z-of_z w128 c.args.worth f)
    (to_z-of_z w128 c.in-Some.gap k)) c.in_err-write_compared.ensures.fault))

pub returns-clause-answer : goal.returns-clause-answer
returns-clause-answer g c = λ texts design text name valued best.
    let v = design_view c.args.valued.now in
    let f : FitsSigned w128 c.args.worth = search rules in
    let h : FitsSigned w128 c.args.valued.now.worth = search rules in
    let k : FitsSigned w128 c.in-Some.gap = search rules in
    let less = same_less _ _ c.args.worth v.worth (to_z-of_z w128 c.args.worth f)
    (to_z-of_z w128 c.args.valued.now.worth h) in
    let P : List ℕ → Type 0 = λ t. Appends (g.W.Write.contents c.args.out.now)
    (g.W.Write.contents c.write_compared.new.out) t in (
      beside v c.args.count c.args.worth c.in-Some.gap,
      compared texts design text v name c.args.count c.args.worth c.in-Some.gap valued best
          (c.in-Some.ensures.1 ∙ less),
      c.verdict_where.ensures,
      subst P (same_text v c.args.count _ _ c.args.worth c.in-Some.gap (to_z-of_z w128 c.args.worth f)
          (to_z-of_z w128 c.in-Some.gap k)) c.in_ok-write_compared.ensures.lines,
    )
