use Rattle.std.proofs.Common.{ap, ◌∙◌, arith}
use lib.Count.{count_trailing_zeros}
use lib.Lanes.{chunk}
use Rattle.std.proofs.lemmas.Simd.{trailing_mask_l, run_in_chunk_le, length-chunk}
use Rattle.fixed_worth.specs.Numeral.{is_other}
use Rattle.fixed_worth.proofs.EightBytes.{front_digits}
use Rattle.fixed_worth.proofs.eight_bytes.digits_in_front.Goals as goal

pub returns-else-others-eq0-clause-within : goal.returns-else-others-eq0-clause-within
returns-else-others-eq0-clause-within c =
    let found = c.others_among-others in
    let text = c.args.text.now in
    let run = ap (count_trailing_zeros 64) found.ensures
    ∙ trailing_mask_l is_other 64 (chunk 0 8 text)
    (omega (arith, length-chunk 0 8 text (omega (arith, c.requires))))
    (omega (arith, found.ensures, c.if-others-eq0.false)) in
    run_in_chunk_le is_other text 0 8 (count_trailing_zeros 64 found.result) 0 (omega (arith, c.requires)) run

pub returns-else-others-eq0-clause-digits : goal.returns-else-others-eq0-clause-digits
returns-else-others-eq0-clause-digits c =
    let found = c.others_among-others in
    let text = c.args.text.now in
    let run = ap (count_trailing_zeros 64) found.ensures
    ∙ trailing_mask_l is_other 64 (chunk 0 8 text)
    (omega (arith, length-chunk 0 8 text (omega (arith, c.requires))))
    (omega (arith, found.ensures, c.if-others-eq0.false)) in
    front_digits text (count_trailing_zeros 64 found.result) c.requires
    (run_in_chunk_le is_other text 0 8 (count_trailing_zeros 64 found.result) 0 (omega (arith, c.requires)) run) run
