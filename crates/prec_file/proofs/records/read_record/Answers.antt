use Rattle.fixed_worth.proofs.Common.{length, Some, sym, ap, ◌∙◌, arith, err_from_is_err_and}
use Rattle.fixed_worth.specs.Record.{block_of}
use Rattle.prec_file.specs.Records.{predecessor_count_of, predecessors_of}
use Rattle.prec_file.proofs.Shapes.{one_read, two_read, reads_ok, reads_err, too_few, bad_second, bad_rest, unknown}
use Rattle.prec_file.proofs.Shapes.{sound, known, texts_length, texts}
use Rattle.fixed_worth.proofs.FirstNumbers.{number_no_remark}
use Rattle.prec_file.proofs.records.read_record.Goals as goal

pub returns-in_default-next_whole : goal.returns-in_default-next_whole
returns-in_default-next_whole c =
    let q = one_read c.new-fields.result c.next_whole.new.self c.in-Ok.block
    (ap Some (sym c.in-Ok.is) ∙ c.in-Some.ensures.value) c.in-Some.ensures.left
    c.in_default-next_whole.ensures.value in
    too_few c.args.n c.args.line _ q.0 (ap texts (sym c.new-fields.ensures.fields) ∙ q.1) (number_no_remark q.0 q.2)

pub returns-in_default-second : goal.returns-in_default-second
returns-in_default-second c =
    let q = two_read c.new-fields.result c.next_whole.new.self c.next_whole-2.new.self c.in-Ok.block
    c.in-Some-next_whole.second (ap Some (sym c.in-Ok.is) ∙ c.in-Some.ensures.value) c.in-Some.ensures.left
    c.in-Some-next_whole.ensures.value c.in-Some-next_whole.ensures.left in
    bad_second c.args.n c.args.line _ q.block q.count (texts c.next_whole-2.new.self)
    (ap texts (sym c.new-fields.ensures.fields) ∙ q.fields) q.plain q.good
    (reads_err q.count c.in_default-second.field-0 (sym c.in_default-second.is ∙ q.second))

pub returns-then-listed : goal.returns-then-listed
returns-then-listed c =
    let q = two_read _ _ _ _ _ (ap Some (sym c.in-Ok.is) ∙ c.in-Some.ensures.value) c.in-Some.ensures.left
    c.in-Some-next_whole.ensures.value c.in-Some-next_whole.ensures.left in
    unknown _ _ _ _ _ _ _ (ap texts (sym c.new-fields.ensures.fields) ∙ q.fields) q.plain q.good q.value
    (reads_ok _ _ (sym c.in-Ok-second.is ∙ q.second)).0 c.in_ok-listed.ensures.0
    (sym c.in_ok-listed.ensures.1 ∙ c.if-listed.true)

pub returns-in_err-listed : goal.returns-in_err-listed
returns-in_err-listed c =
    let q = two_read _ _ _ _ _ (ap Some (sym c.in-Ok.is) ∙ c.in-Some.ensures.value) c.in-Some.ensures.left
    c.in-Some-next_whole.ensures.value c.in-Some-next_whole.ensures.left in
    let p = err_from_is_err_and c.from_residual.result c.from_residual.ensures.1 in
    rw (p.1, p.2, c.in_err-listed.ensures.0)
    (bad_rest _ _ _ _ _ _ (ap texts (sym c.new-fields.ensures.fields) ∙ q.fields) q.plain q.good
    (reads_ok _ _ (sym c.in-Ok-second.is ∙ q.second)).0 c.in_err-listed.ensures.1)

pub returns : goal.returns
returns c =
    let q = two_read c.new-fields.result c.next_whole.new.self c.next_whole-2.new.self c.in-Ok.block
    c.in-Some-next_whole.second (ap Some (sym c.in-Ok.is) ∙ c.in-Some.ensures.value) c.in-Some.ensures.left
    c.in-Some-next_whole.ensures.value c.in-Some-next_whole.ensures.left in
    let e = ap texts (sym c.new-fields.ensures.fields) ∙ q.fields in
    let k = reads_ok q.count c.in-Ok-second.count (sym c.in-Ok-second.is ∙ q.second) in
    let no = sym c.in_ok-listed.ensures.1 ∙ c.if-listed.false in
    let s = sound c.args.n c.args.line c.in-Ok.block _ q.block q.count (texts c.next_whole-2.new.self) e q.plain
    q.good q.value k.0 c.in_ok-listed.ensures.0 no in (
      record {
        is = s.0;
        sound = s.1;
        block = sym (ap block_of e ∙ q.value);
        known = known c.args.n c.in-Ok.block _ no;
        count = sym (ap predecessor_count_of e ∙ k.1);
        found = c.in_ok-listed.ensures.2 ∙ sym (texts_length c.next_whole-2.new.self)
            ∙ sym (ap (λ fs. length (predecessors_of fs)) e);
        few = omega (arith, q.fewer, c.new-fields.ensures.few, c.requires.short, c.in_ok-listed.ensures.2);
      },
      c.in_ok-listed.ensures.3 c.if-listed.false ∙ ap predecessors_of (sym e),
      c.in_ok-listed.ensures.4,
    )
