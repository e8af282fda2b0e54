use Rattle.std.proofs.Common.{sym, subst}
use Rattle.bench_report.specs.Benches.{reported_blocks, IsBenchTable}
use Rattle.bench_report.proofs.Tables.{tallied_is_table}
use Rattle.bench_report.proofs.bench_table.rows.Goals as goal

pub returns : goal.returns
returns c =
    let m = reported_blocks c.args.model.now c.args.series.now c.args.tonnes c.args.worths.now in
    let tallied = c.in_ok-by_place.ensures in (
      c.has_lengths.ensures.0 c.if-not-has_lengths.false,
      tallied.fits,
      subst (IsBenchTable m)
          (sym c.in_ok-rows.ensures.value)
          (tallied_is_table m c.in_ok-by_place.by_place c.in_ok-rows.ensures.ordered tallied),
    )
