use Rattle.fixed_worth.proofs.Common.{List, ℕ, subst, err_from_is_err_and}
use Rattle.mine_inputs.specs.Mines.{PrecedenceBy}
use Rattle.shell_engines.specs.declared.series_outputs.Wanted.{Wanted}
use Rattle.shell_engines.specs.Devices.{wanted_by, contents_in, precedence_in}
use Rattle.shell_engines.proofs.Answering.{unanswered, sent}
use Rattle.report_engines.specs.Prelude.{IsReportRead, AnswersReport, ReportFails}
use Rattle.report_engines.proofs.Answers.{mine_unread}
use Rattle.report_engines.proofs.reporting_engine.report_engine.Goals as goal

pub returns-in_err-mine-clause-answer : goal.returns-in_err-mine-clause-answer
returns-in_err-mine-clause-answer g c =
    let p = err_from_is_err_and c.from_residual.result c.from_residual.ensures.1 in
    let inputs = c.args.inputs.now in
    let outputs = c.args.outputs.now in
    rw (p.1, p.2) (mine_unread (g.D.Read.remaining inputs.settings) (g.D.Read.remaining inputs.blocks)
    (precedence_in inputs.prec g.D.Read.remaining) (contents_in outputs.by_block g.V.Write.contents)
    (g.W.Write.contents outputs.out) c.args.effort (wanted_by outputs) c.in_err-mine.field-0.0
    c.in_err-mine.ensures.read)

pub returns-in_err-answer-clause-answer : goal.returns-in_err-answer-clause-answer
returns-in_err-answer-clause-answer g c =
    let p = err_from_is_err_and c.from_residual-in_err-answer.result c.from_residual-in_err-answer.ensures.1 in
    let inputs = c.args.inputs.now in
    let outputs = c.args.outputs.now in
    let mine = c.in_ok-mine.mine in
    rw (p.1, p.2) (unanswered (g.D.Read.remaining inputs.settings) (g.D.Read.remaining inputs.blocks)
    (precedence_in inputs.prec g.D.Read.remaining)
    (λ s b p. AnswersReport s b p c.args.effort (wanted_by outputs)) ReportFails
    (λ s b p. IsReportRead s b p mine.series.prices mine.series.predecessors mine.series.factors.items mine.model
    mine.priced_by mine.series.factor) c.in_ok-mine.ensures.read
    (contents_in outputs.by_block g.V.Write.contents) (g.W.Write.contents outputs.out) c.in_err-answer.field-0.0
    c.in_err-answer.ensures.answer)

pub returns-clause-answer : goal.returns-clause-answer
returns-clause-answer g c =
    let inputs = c.args.inputs.now in
    let old = c.args.outputs.now in
    let new = c.send.new.outputs in
    let mine = c.in_ok-mine.mine in
    let a = c.in_ok-answer.answer in
    let P : Wanted → Type 0 = λ k. (s b : List ℕ) (p : PrecedenceBy)
    → IsReportRead s b p mine.series.prices mine.series.predecessors mine.series.factors.items mine.model
    mine.priced_by mine.series.factor → AnswersReport s b p c.args.effort k a.verdict a.table.items a.text.items in
    sent (g.D.Read.remaining inputs.settings) (g.D.Read.remaining inputs.blocks)
    (precedence_in inputs.prec g.D.Read.remaining)
    (λ s b p. AnswersReport s b p c.args.effort (wanted_by old)) ReportFails
    (λ s b p. IsReportRead s b p mine.series.prices mine.series.predecessors mine.series.factors.items mine.model
    mine.priced_by mine.series.factor) c.in_ok-mine.ensures.read
    (contents_in old.by_block g.V.Write.contents) (contents_in new.by_block g.V.Write.contents)
    (g.W.Write.contents old.out) (g.W.Write.contents new.out) a.verdict a.table.items a.text.items
    (subst P c.wanted-wanted.ensures c.in_ok-answer.ensures.answer) (λ s b p. tt) c.send.result c.send.ensures.sent
    c.send.ensures.cut
