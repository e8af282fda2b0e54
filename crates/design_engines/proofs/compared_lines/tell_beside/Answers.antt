use Rattle.fixed_worth.proofs.Common.{ℤ, sym, ap, ◌∙◌, rules, subst, FitsSigned, w128, Appends, to_z-of_z}
use Rattle.fixed_worth.proofs.Common.{err_from_is_err_and}
use Rattle.check_engines.specs.declared.judgement.Judgement.{Judgement}
use Rattle.check_engines.specs.Prelude.{LineFails, CertificateAccepted, IsTrueJudgement, judgement_line, verdict_of}
use Rattle.design_engines.specs.Comparisons.ComparedView.{unproved}
use Rattle.design_engines.specs.Told.{design_view}
use Rattle.design_engines.proofs.Compared.{drawn_of, compared_failed}
use Rattle.design_engines.proofs.compared_lines.tell_beside.Goals as goal

pub returns-in-Accepted-clause-answer : goal.returns-in-Accepted-clause-answer
returns-in-Accepted-clause-answer g c = λ texts design text both.
    let a = c.in-Accepted in
    let f : FitsSigned w128 c.in-Accepted.worth = search rules in
    let P : Judgement → Type 0 = λ j. IsTrueJudgement texts text j in
    let Q : ℤ → Type 0 = λ w. CertificateAccepted texts text a.group a.count w in
    c.tell_gap.ensures.answer texts design text a.group both.0
    (subst Q (sym (to_z-of_z w128 c.in-Accepted.worth f)) (subst P a.is both.1))

pub returns-in_err-write_judgement-in-Refused-clause-answer :
    goal.returns-in_err-write_judgement-in-Refused-clause-answer
returns-in_err-write_judgement-in-Refused-clause-answer g c = λ texts design text both.
    let P : Judgement → Type 0 = λ j. IsTrueJudgement texts text j in
    let Q : Judgement → Type 0 = λ j. LineFails (g.W.Write.contents c.args.out.now)
    (g.W.Write.contents c.write_judgement.new.out) (judgement_line j)
    c.in_err-write_judgement-in-Refused.field-0.0 in
    let p = err_from_is_err_and c.from_residual.result c.from_residual.ensures.1 in
    rw (p.1, p.2)
    (compared_failed texts design text (unproved c.in-Refused.field-0) (g.W.Write.contents c.args.out.now)
    (g.W.Write.contents c.write_judgement.new.out) c.in_err-write_judgement-in-Refused.field-0.0
    (drawn_of texts design (design_view c.args.beside.valued) both.0, subst P c.in-Refused.is both.1)
    (subst Q c.in-Refused.is c.in_err-write_judgement-in-Refused.ensures.fault))

pub returns-clause-answer : goal.returns-clause-answer
returns-clause-answer g c = λ texts design text both.
    let P : Judgement → Type 0 = λ j. IsTrueJudgement texts text j in
    let Q : Judgement → Type 0 = λ j. Appends (g.W.Write.contents c.args.out.now)
    (g.W.Write.contents c.write_judgement.new.out) (judgement_line j) in (
      unproved c.in-Refused.field-0,
      (drawn_of texts design (design_view c.args.beside.valued) both.0, subst P c.in-Refused.is both.1),
      c.verdict.ensures ∙ ap verdict_of c.in-Refused.is,
      subst Q c.in-Refused.is c.in_ok-write_judgement-in-Refused.ensures.line,
    )
