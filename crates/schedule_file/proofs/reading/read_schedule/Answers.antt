use Rattle.fixed_worth.proofs.Common.{List, length, ap, sym, subst, ◌∙◌, err_from_is_err_and}
use Rattle.schedule_file.specs.declared.entry.Entry.{Entry}
use Rattle.schedule_file.proofs.Progress.{ReadSoFar, step_on, step_wrong, unless}
use Rattle.fixed_worth.proofs.Lent.{written_back}
use Rattle.schedule_file.proofs.reading.read_schedule.Goals as goal

pub loop-line-preserved : goal.loop-line-preserved
loop-line-preserved c =
    let q = rw c.in-Ok-Some.field-0-is at c.in-Ok-Some.ensures in
    let r = c.in_ok-read_line-in-Ok-Some.ensures in
    let lent = c.as_mut_slice.ensures.value in
    let same = c.read_line.auto.schedule ∙ ap length lent in
    let back = written_back c.read_line.new.schedule c.loop-line.schedule.items c.loop-line.schedule.len same
    c.loop-line.schedule.ok.0 in
    let g = subst (λ (xs : List Entry). ReadSoFar c.args.n c.args.periods c.args.ways c.args.text.now xs
    c.loop-line.lines) (sym lent) c.loop-line.invariant.going in
    record {
      going = subst (λ (xs : List Entry). ReadSoFar c.args.n c.args.periods c.args.ways c.args.text.now xs
          c.next_line.new.self) (sym back)
          (step_on c.args.n c.args.periods c.args.ways c.number-number.result c.args.text.now
          c.as_mut_slice.result.now c.loop-line.lines c.next_line.new.self c.in-Ok-Some.line.now
          g c.number-number.ensures.value q.1 q.2 q.0 c.read_line.new.schedule
          (ap length lent ∙ c.loop-line.invariant.all) r.0 r.1);
      all = ap length back ∙ same ∙ c.loop-line.invariant.all;
    }

pub returns-in_err-read_line-in-Ok-Some : goal.returns-in_err-read_line-in-Ok-Some
returns-in_err-read_line-in-Ok-Some c =
    let q = rw c.in-Ok-Some.field-0-is at c.in-Ok-Some.ensures in
    let lent = c.as_mut_slice.ensures.value in
    let g = subst (λ (xs : List Entry). ReadSoFar c.args.n c.args.periods c.args.ways c.args.text.now xs
    c.loop-line.lines) (sym lent) c.loop-line.invariant.going in
    let fault = c.in_err-read_line-in-Ok-Some.field-0.0 in
    let p = err_from_is_err_and c.from_residual-in_err-read_line-in-Ok-Some.result
    c.from_residual-in_err-read_line-in-Ok-Some.ensures.1 in
    rw (p.1, p.2) (unless fault
    (step_wrong c.args.n c.args.periods c.args.ways c.number-number.result c.args.text.now
    c.as_mut_slice.result.now c.loop-line.lines c.next_line.new.self c.in-Ok-Some.line.now
    g c.number-number.ensures.value q.1 q.2 q.0 fault c.in_err-read_line-in-Ok-Some.ensures))
