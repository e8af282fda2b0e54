use Rattle.std.proofs.Common.{ℕ, refl, subst, arith, ◌≤◌}
use Rattle.fixed_worth.specs.declared.limits.TheConstants.{MOST_BLOCKS}
use Rattle.bench_report.specs.declared.report_fault.ReportFault.{ReportFault}
use Rattle.bench_report.specs.Prelude.{reported_blocks, SomeBenchSumOverflows, ReportFaultStands}
use Rattle.report_engines.proofs.SmallSums.{same_lengths, none_overflows}
use Rattle.report_engines.proofs.bench_rows.rows_of.Goals as goal

pub unreachable-requires : goal.unreachable-requires
unreachable-requires c =
    let m = c.args.blocks.now.model.now in
    let series = c.args.blocks.now.series.now in
    let amounts = c.args.amounts.now in
    let F : ReportFault → Type 0 = λ e. ReportFaultStands m series amounts
    (reported_blocks m series c.place_beside-tonnes.result amounts) e in
    subst F c.in-Err-WrongModel.field-0-is c.in-Err-WrongModel.ensures
    (same_lengths c.args.blocks.now.priced_by.now m series.prices c.requires.priced series amounts refl
    c.requires.small)

pub unreachable-requires-in-Err-TooLarge : goal.unreachable-requires-in-Err-TooLarge
unreachable-requires-in-Err-TooLarge c =
    let m = c.args.blocks.now.model.now in
    let series = c.args.blocks.now.series.now in
    let amounts = c.args.amounts.now in
    let F : ReportFault → Type 0 = λ e. ReportFaultStands m series amounts
    (reported_blocks m series c.place_beside-tonnes.result amounts) e in
    let T : ℕ → Type 0 = λ i. SomeBenchSumOverflows (reported_blocks m series i amounts) in
    let few : m.blocks ≤ MOST_BLOCKS = omega (arith, c.len-blocks.ensures.value, c.len-blocks.ensures.bound) in
    none_overflows c.args.blocks.now.priced_by.now m series.prices c.requires.priced series amounts few
    c.requires.small (subst T c.place_beside-tonnes.ensures
    (subst F c.in-Err-TooLarge.field-0-is c.in-Err-TooLarge.ensures).1)
