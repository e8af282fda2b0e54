use Rattle.fixed_worth.proofs.Common.{◌≡◌, [], ◌∷◌, rules, arith, Some, decimal}
use Rattle.csv.specs.Writing.{default_writer, row_text}
use Rattle.bench_report.specs.BlockShells.{block_shell_line}
use Rattle.bench_report.proofs.Plain.{decimal_plain}
use Rattle.bench_report.proofs.Lines.{two_fields}
use Rattle.bench_report.proofs.block_shells.put_held.Goals as goal

pub returns-clause-text : goal.returns-clause-text
returns-clause-text c =
    let a : c.as_bytes.result.now ≡ decimal c.args.b = search
    (rules, c.as_bytes.ensures.value, c.in_ok-block.ensures.ok) in
    let d : c.as_bytes-2.result.now ≡ decimal c.args.factor = search
    (rules, c.as_bytes-2.ensures.value, c.in_ok-shell.ensures.ok) in
    let line : row_text default_writer (c.as_bytes.result.now ∷ c.as_bytes-2.result.now ∷ [])
    ≡ block_shell_line c.args.b (Some c.args.factor) =
    rw (a, d) (two_fields (decimal c.args.b) (decimal c.args.factor)
    (decimal_plain c.args.b (omega (arith, c.ranges.b.fits)))
    (decimal_plain c.args.factor (omega (arith, c.ranges.factor.fits)))) in
    rw line at c.put_fields.ensures.text
