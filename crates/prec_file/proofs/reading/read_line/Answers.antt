use Rattle.fixed_worth.proofs.Common.{ℕ, Bool, false, length, get_or, ap, sym, ◌∙◌, ◌++◌, arith, length-append, List}
use Rattle.fixed_worth.proofs.Common.{map, length-map, err_from_is_err_and, common_steps}
use Rattle.fixed_worth.specs.Text.{fields_of}
use Rattle.prec_file.specs.Records.{record_fault}
use Rattle.prec_file.proofs.History.{told, repeated}
use Rattle.prec_file.proofs.Marks.{marks}
use Rattle.prec_file.proofs.RowReading.{record_pairs}
use Rattle.prec_file.proofs.reading.read_line.Goals as goal

pub returns-then-seen-record : goal.returns-then-seen-record
returns-then-seen-record c = grind (arith, common_steps, repeated)

pub returns : goal.returns
returns c =
    let q = rw c.in-Some.is at c.in_ok-record.ensures in
    let fs = fields_of c.args.text.now in
    let had : ℕ → Bool = λ b. get_or c.args.seen.now b false in
    let k = ap length c.as_slice-before.ensures.value in
    let good = c.in_ok-counted.ensures c.args.n fs had q.0 c.if-seen-record.false in
    let stored = c.in-Ok.ensures in
    let all = ap length stored in (
      ap (λ (x : ℕ). record_fault c.args.n had x c.args.line fs) (sym k) ∙ good.0,
      stored ∙ ap (λ xs. c.args.pairs.now.items ++ xs)
          (ap (λ (xs : List ℕ). map (λ (p : ℕ). (c.in-Some.record.block, p)) xs) (c.deref.ensures.value ∙ q.1)
          ∙ record_pairs c.in-Some.record.block fs q.0.is q.0.block),
      omega (
        arith,
        all,
        length-append c.args.pairs.now.items
            (map {B = ℕ × ℕ} (λ (p : ℕ). (c.in-Some.record.block, p)) c.deref.result.now),
        length-map {B = ℕ × ℕ}
            c.deref.result.now (λ (p : ℕ). (c.in-Some.record.block, p)),
        ap length (c.deref.ensures.value ∙ q.1),
        k,
        good.1,
        q.0.found,
      ),
      marks fs c.args.seen.now c.in-Some.record.block q.0.is q.0.block,
      q.2,
    )

pub returns-in_err-record : goal.returns-in_err-record
returns-in_err-record c = grind (arith, common_steps, err_from_is_err_and, told)
