use Rattle.fixed_worth.proofs.Common.{◌≡◌, ◌^◌, ◌<◌, [], ◌∷◌, Fits, FitsSigned, rules, arith, unsigned_abs, w128}
use Rattle.fixed_worth.proofs.Common.{decimal, signed_decimal, ints}
use Rattle.std.specs.Int.{w32}
use Rattle.csv.specs.Writing.{default_writer, row_text}
use Rattle.fixed_worth.specs.Printed.{amount_text}
use Rattle.bench_report.specs.Written.{fields_line}
use Rattle.bench_report.proofs.Plain.{decimal_plain, signed_plain, printed_plain}
use Rattle.bench_report.proofs.Lines.{five_fields}
use Rattle.bench_report.proofs.written_table.put_row.Goals as goal

pub returns-clause-text : goal.returns-clause-text
returns-clause-text c =
    let row = c.args.row.now in
    let a : c.as_bytes.result.now ≡ signed_decimal row.z = search
    (rules, c.as_bytes.ensures.value, c.in_ok-z.ensures.ok) in
    let b : c.as_bytes-2.result.now ≡ decimal row.shell = search
    (rules, c.as_bytes-2.ensures.value, c.in_ok-shell.ensures.ok) in
    let d : c.as_bytes-3.result.now ≡ decimal row.blocks = search
    (rules, c.as_bytes-3.ensures.value, c.in_ok-blocks.ensures.ok) in
    let e : c.as_bytes-4.result.now ≡ amount_text 6 row.tonnes = search
    (rules, c.as_bytes-4.ensures.value, c.in_ok-tonnes.ensures.ok) in
    let f : c.as_bytes-5.result.now ≡ amount_text 9 row.worth = search
    (rules, c.as_bytes-5.ensures.value, c.in_ok-worth.ensures.ok) in
    let z : FitsSigned w32 row.z = search rules in
    let shell : Fits w32 row.shell = search rules in
    let blocks : Fits w32 row.blocks = search rules in
    let tonnes : FitsSigned w128 row.tonnes = search rules in
    let worth : FitsSigned w128 row.worth = search rules in
    let height : unsigned_abs row.z < 10 ^ 64 = omega (arith, ints, z.sfits) in
    let mass : unsigned_abs row.tonnes < 10 ^ 64 = omega (arith, ints, tonnes.sfits) in
    let value : unsigned_abs row.worth < 10 ^ 64 = omega (arith, ints, worth.sfits) in
    let line : row_text default_writer
    (c.as_bytes.result.now ∷ c.as_bytes-2.result.now ∷ c.as_bytes-3.result.now ∷ c.as_bytes-4.result.now
    ∷ c.as_bytes-5.result.now ∷ []) ≡ fields_line row.z row.shell row.blocks row.tonnes row.worth =
    rw (a, b, d, e, f) (five_fields (signed_decimal row.z) (decimal row.shell) (decimal row.blocks)
    (amount_text 6 row.tonnes) (amount_text 9 row.worth)
    (signed_plain row.z height) (decimal_plain row.shell (omega (arith, shell.fits)))
    (decimal_plain row.blocks (omega (arith, blocks.fits)))
    (printed_plain 6 row.tonnes (omega (arith, mass)) (omega arith))
    (printed_plain 9 row.worth (omega (arith, value)) (omega arith))) in
    rw line at c.put_fields.ensures.text
