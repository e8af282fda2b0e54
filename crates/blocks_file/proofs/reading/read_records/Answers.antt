use Rattle.fixed_worth.proofs.Common.{◌≡◌, ℕ, ℤ, pos, ◌*◌, List, length, refl, ap, ◌∙◌, subst, length-replicate}
use Rattle.fixed_worth.specs.Prelude.{fields_of, lines_in}
use Rattle.blocks_file.specs.Prelude.{columns_of, HoldsValues, ArePut}
use Rattle.fixed_worth.proofs.NextLine.{Next}
use Rattle.blocks_file.proofs.LineAfterLine.{begins, passes, keeps, read_all}
use Rattle.fixed_worth.proofs.Results.{ok_before}
use Rattle.fixed_worth.proofs.Lent.{written_back}
use Rattle.blocks_file.proofs.reading.read_records.Goals as goal

pub loop-line-init : goal.loop-line-init
loop-line-init c =
    let k = rw (ok_before _ _ _ _ c.in_ok-kept.was c.map_err.ensures.cases) at c.new.ensures in
    let zeros = rw (ok_before _ _ _ _ c.in_ok-row.was c.map_err-2.ensures.cases) at c.zeros.ensures in
    record {
      so_far = begins c.args.n c.args.columns.now (lines_in c.args.text.now) c.in_ok-kept.kept.seen.items
          c.in_ok-kept.kept.places.items c.in_ok-kept.kept.values.items c.new-lines.result
          (rw (c.new-lines.ensures.lines, c.new-lines.ensures.number) refl) k.0 k.1 k.2;
      row = ap length zeros ∙ length-replicate (length c.args.columns.now) (pos 0);
    }

pub loop-line-preserved : goal.loop-line-preserved
loop-line-preserved c =
    let q = rw c.in-Ok-Some.field-0-is at c.in-Ok-Some.ensures in
    let h : Next c.loop-line.lines c.next_line.new.self c.number-number.result c.in-Ok-Some.line.now = record
    { lines = q.1; number = q.2; same = c.number-number.ensures.value; small = q.0 } in
    let r = rw c.in-Some.is at c.in_ok-record-in-Ok-Some.ensures in
    let k = c.in_ok-keep-in-Ok-Some.ensures in
    let lent = c.as_mut_slice.ensures.value in
    let back = written_back c.read_record.new.row c.loop-line.row.items c.loop-line.row.len
    (c.read_record.auto.row ∙ ap length lent) c.loop-line.row.ok.0 in
    let holds : HoldsValues c.args.columns.now (columns_of (fields_of c.in-Ok-Some.line.now)) c.read_record.new.row =
    r.4 in
    let given : c.as_slice.result.now ≡ c.read_record.new.row = c.as_slice.ensures.value ∙ back in
    let put = k.3 in
    record {
      so_far = keeps c.args.n c.in-Some.record.block c.args.columns.now c.in-Some.record.place c.read_record.new.row
          (lines_in c.args.text.now)
          c.loop-line.kept.seen.items c.keep.new.self.seen.items c.loop-line.kept.places.items
          c.keep.new.self.places.items c.loop-line.kept.values.items c.keep.new.self.values.items
          c.loop-line.lines c.next_line.new.self c.number-number.result c.in-Ok-Some.line.now
          c.loop-line.invariant.so_far h r.0 r.1 r.2 r.3 holds k.0 k.1 k.2
          (subst (λ (w : ℕ). ArePut (c.in-Some.record.block * w) c.read_record.new.row c.loop-line.kept.values.items
          c.keep.new.self.values.items) holds.size
          (subst (λ (xs : List ℤ). ArePut (c.in-Some.record.block * length xs) xs c.loop-line.kept.values.items
          c.keep.new.self.values.items) given put));
      row = ap length back ∙ c.read_record.auto.row ∙ ap length lent ∙ c.loop-line.invariant.row;
    }

pub loop-line-preserved-in_default : goal.loop-line-preserved-in_default
loop-line-preserved-in_default c =
    let q = rw c.in-Ok-Some.field-0-is at c.in-Ok-Some.ensures in
    let h : Next c.loop-line.lines c.next_line.new.self c.number-number.result c.in-Ok-Some.line.now = record
    { lines = q.1; number = q.2; same = c.number-number.ensures.value; small = q.0 } in
    let r = rw c.in_default.is at c.in_ok-record-in-Ok-Some.ensures in
    let lent = c.as_mut_slice.ensures.value in
    let back = written_back c.read_record.new.row c.loop-line.row.items c.loop-line.row.len
    (c.read_record.auto.row ∙ ap length lent) c.loop-line.row.ok.0 in
    record {
      so_far = passes c.args.n c.args.columns.now (lines_in c.args.text.now) c.loop-line.kept.seen.items
          c.loop-line.kept.places.items c.loop-line.kept.values.items
          c.loop-line.lines c.next_line.new.self c.number-number.result c.in-Ok-Some.line.now
          c.loop-line.invariant.so_far h r;
      row = ap length back ∙ c.read_record.auto.row ∙ ap length lent ∙ c.loop-line.invariant.row;
    }

pub returns-in-Ok-None : goal.returns-in-Ok-None
returns-in-Ok-None c =
    let q = rw c.in-Ok-None.field-0-is at c.in-Ok-None.ensures in
    read_all c.args.n c.args.columns.now (lines_in c.args.text.now) c.loop-line.kept.seen.items
    c.loop-line.kept.places.items c.loop-line.kept.values.items c.loop-line.lines c.loop-line.invariant.so_far q.0
    c.requires.counted c.requires.bound c.requires.few
