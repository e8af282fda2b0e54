use Rattle.fixed_worth.proofs.Common.{List, Bool, length, ap, sym, subst, ◌∙◌, err_from_is_err_and}
use Rattle.design_file.proofs.Progress.{ReadSoFar, step_on, step_wrong, unless}
use Rattle.fixed_worth.proofs.Lent.{written_back}
use Rattle.design_file.proofs.reading.read_design.Goals as goal

pub loop-line-preserved : goal.loop-line-preserved
loop-line-preserved c =
    let q = rw c.in-Ok-Some.field-0-is at c.in-Ok-Some.ensures in
    let r = c.in_ok-read_line-in-Ok-Some.ensures in
    let lent = c.as_mut_slice.ensures.value in
    let same = c.read_line.auto.marks ∙ ap length lent in
    let back = written_back c.read_line.new.marks c.loop-line.marks.items c.loop-line.marks.len same
    c.loop-line.marks.ok.0 in
    let g = subst (λ (xs : List Bool). ReadSoFar c.args.n c.args.text.now xs c.loop-line.is_open c.loop-line.lines)
    (sym lent) c.loop-line.invariant.going in
    record {
      going = subst (λ (xs : List Bool). ReadSoFar c.args.n c.args.text.now xs c.is_open_after-is_open.result
          c.next_line.new.self) (sym back)
          (step_on c.args.n c.number-number.result c.args.text.now c.as_mut_slice.result.now c.read_line.new.marks
          c.loop-line.is_open c.is_open_after-is_open.result c.loop-line.lines c.next_line.new.self
          c.in-Ok-Some.line.now
          g (ap length lent ∙ c.loop-line.invariant.all) c.number-number.ensures.value q.1 q.2 q.0 r.0 r.1
          c.is_open_after-is_open.ensures);
      all = ap length back ∙ same ∙ c.loop-line.invariant.all;
    }

pub returns-in_err-read_line-in-Ok-Some : goal.returns-in_err-read_line-in-Ok-Some
returns-in_err-read_line-in-Ok-Some c =
    let q = rw c.in-Ok-Some.field-0-is at c.in-Ok-Some.ensures in
    let lent = c.as_mut_slice.ensures.value in
    let g = subst (λ (xs : List Bool). ReadSoFar c.args.n c.args.text.now xs c.loop-line.is_open c.loop-line.lines)
    (sym lent) c.loop-line.invariant.going in
    let fault = c.in_err-read_line-in-Ok-Some.field-0.0 in
    let p = err_from_is_err_and c.from_residual-in_err-read_line-in-Ok-Some.result
    c.from_residual-in_err-read_line-in-Ok-Some.ensures.1 in
    rw (p.1, p.2) (unless fault
    (step_wrong c.args.n c.number-number.result c.args.text.now c.as_mut_slice.result.now c.loop-line.is_open
    c.loop-line.lines c.next_line.new.self c.in-Ok-Some.line.now fault
    g c.number-number.ensures.value q.1 q.2 q.0 c.in_err-read_line-in-Ok-Some.ensures))
