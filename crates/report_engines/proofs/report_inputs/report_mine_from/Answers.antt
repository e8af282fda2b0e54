use Rattle.fixed_worth.proofs.Common.{◌≡◌, ℕ, ◌+◌, ◌<◌, [], ◌∷◌, length, sym, ap, subst, arith, Option, IfSome}
use Rattle.fixed_worth.proofs.Common.{err_from_is_err_and}
use Rattle.shells.specs.Prices.{priced_count}
use Rattle.mine_inputs.specs.Prelude.{column_after, place_beside}
use Rattle.engine_faults.proofs.Failed.{stayed, went}
use Rattle.mine_inputs.proofs.SlopedAnswers.{regions_within}
use Rattle.report_engines.specs.declared.report_inputs.ReportColumns.{ReportColumns}
use Rattle.mine_inputs.specs.declared.columns_of_prices.PriceColumns.{PriceColumns}
use Rattle.shell_engines.specs.Devices.{precedence_in}
use Rattle.report_engines.specs.ReportParts.{IsPricedModel, IsReportRead, IsSaid, ReadsRests, RestsReadFail, SaidFails}
use Rattle.report_engines.proofs.Readings.{said_fails, model_unread, rests_unread, all_are_read}
use Rattle.report_engines.proofs.report_inputs.report_mine_from.Goals as goal

pub rests_from-requires-clause-columns : goal.rests_from-requires-clause-columns
rests_from-requires-clause-columns g c κs within =
    let said = c.in_ok-said.said in
    let read = c.in_ok-read.read in
    let region : said.columns.region ≡ said.settings.region = ap (λ (k : ReportColumns). k.region)
    c.in_ok-said.ensures.columns in
    let priced_by = ap place_beside c.in_ok-read.ensures.priced_by in
    subst (λ (o : Option ℕ). IfSome (column_after (place_beside read.priced_by + 1) o)
    (λ i. i < length read.model.columns)) region
    (regions_within said.columns.prices (said.columns.tonnes ∷ []) said.columns.region
    (place_beside read.priced_by + 1) (length read.model.columns) (omega (arith, priced_by))
    c.in_ok-read.ensures.columns)

pub returns-in_err-said-clause-read : goal.returns-in_err-said-clause-read
returns-in_err-said-clause-read g c =
    let p = err_from_is_err_and c.from_residual.result c.from_residual.ensures.1 in
    let inputs = c.args.inputs.now in
    let e = c.in_err-said.field-0.0 in
    let o = g.D.Read.remaining inputs.settings in
    let told = subst (λ k. IfSome o (λ s. SaidFails k s e)) c.has_slopes-is_sloped.ensures c.in_err-said.ensures.read in
    rw (p.1, p.2) (said_fails o (g.D.Read.remaining inputs.blocks) inputs.prec g.D.Read.remaining e told)

pub returns-in_err-read-clause-read : goal.returns-in_err-read-clause-read
returns-in_err-read-clause-read g c =
    let p = err_from_is_err_and c.from_residual-in_err-read.result c.from_residual-in_err-read.ensures.1 in
    let inputs = c.args.inputs.now in
    let said = c.in_ok-said.said in
    let o = g.D.Read.remaining inputs.settings in
    let told = subst (λ k. IfSome o (λ s. IsSaid k s said.settings said.columns said.factors.items said.factor))
    c.has_slopes-is_sloped.ensures c.in_ok-said.ensures.read in
    rw (p.1, p.2) (model_unread o (g.D.Read.remaining inputs.blocks) inputs.prec g.D.Read.remaining said.settings
    said.columns said.factors.items said.factor told c.in_err-read.field-0.0 c.in_err-read.ensures.read)

pub returns-in_err-predecessors-clause-read : goal.returns-in_err-predecessors-clause-read
returns-in_err-predecessors-clause-read g c =
    let p = err_from_is_err_and c.from_residual-in_err-predecessors.result
    c.from_residual-in_err-predecessors.ensures.1 in
    let inputs = c.args.inputs.now in
    let said = c.in_ok-said.said in
    let read = c.in_ok-read.read in
    let o = g.D.Read.remaining inputs.settings in
    let told = subst (λ k. IfSome o (λ s. IsSaid k s said.settings said.columns said.factors.items said.factor))
    c.has_slopes-is_sloped.ensures c.in_ok-said.ensures.read in
    let priced = subst (λ (k : PriceColumns). IsPricedModel k read.model read.prices) c.in_ok-read.ensures.priced_by
    read.priced in
    let refused = subst (λ (k : PriceColumns). IfSome (precedence_in inputs.prec g.D.Read.remaining)
    (λ q. RestsReadFail q said.settings k read.model (priced_count read.prices) c.in_err-predecessors.field-0.0))
    c.in_ok-read.ensures.priced_by c.in_err-predecessors.ensures.read in
    rw (p.1, p.2) (rests_unread o (g.D.Read.remaining inputs.blocks) inputs.prec g.D.Read.remaining said.settings
    said.columns said.factors.items said.factor told
    read.model read.prices c.in_err-predecessors.ensures.revenues priced c.in_ok-read.ensures.read
    c.in_err-predecessors.field-0.0 refused)

pub returns-in_err-predecessors-clause-kept : goal.returns-in_err-predecessors-clause-kept
returns-in_err-predecessors-clause-kept g c = λ n. (
  went c.in_ok-said.said c.in_ok-said.ensures.kept,
  went c.in_ok-read.read c.in_ok-read.ensures.kept,
  stayed
      c.from_residual-in_err-predecessors.result c.in_err-predecessors.field-0.0
      c.from_residual-in_err-predecessors.ensures.1 c.in_err-predecessors.ensures.kept n,
)

pub returns-clause-read : goal.returns-clause-read
returns-clause-read g c =
    let inputs = c.args.inputs.now in
    let said = c.in_ok-said.said in
    let read = c.in_ok-read.read in
    let rests = c.in_ok-predecessors.predecessors in
    let o = g.D.Read.remaining inputs.settings in
    let q = g.D.Read.remaining inputs.blocks in
    let r = precedence_in inputs.prec g.D.Read.remaining in
    let told = subst (λ k. IfSome o (λ s. IsSaid k s said.settings said.columns said.factors.items said.factor))
    c.has_slopes-is_sloped.ensures c.in_ok-said.ensures.read in
    let priced = subst (λ (k : PriceColumns). IsPricedModel k read.model read.prices) c.in_ok-read.ensures.priced_by
    read.priced in
    let found = subst (λ (k : PriceColumns). IfSome r
    (λ p. ReadsRests p said.settings k read.model (priced_count read.prices) rests))
    c.in_ok-read.ensures.priced_by c.in_ok-predecessors.ensures.read in
    let P : PriceColumns → Type 0 = λ k. IfSome o
    (λ s. IfSome q (λ b. IfSome r
    (λ p. IsReportRead s b p read.prices rests said.factors.items read.model k said.factor))) in
    subst P (sym c.in_ok-read.ensures.priced_by)
    (all_are_read o q inputs.prec g.D.Read.remaining said.settings said.columns said.factors.items said.factor told
    read.model read.prices c.in_ok-predecessors.ensures.revenues priced c.in_ok-read.ensures.read rests found)
