use Rattle.fixed_worth.proofs.Common.{rules, arith, length, [], ◌∷◌, ◌++◌, refl, sym, ◌∙◌, common_steps}
use Rattle.fixed_worth.proofs.Common.{err_from_is_err_and}
use Rattle.prec_file.specs.Rests.{has_pair}
use Rattle.check_pit.proofs.NextLines.{lacks_no_memory}
use Rattle.check_pit.proofs.StreamReadings.{reads_nothing, reading_begins, reading_on, reading_lacks, line_met}
use Rattle.check_pit.proofs.StreamRooms.{summed_begins, summed_on, blocks_ascend, met_sound, may_put, line_refused}
use Rattle.check_pit.proofs.StreamRooms.{pit_open, end_answered}
use Rattle.check_pit.proofs.stream_checking.check_lines.Goals as goal

pub returns-in_default-clause-checked : goal.returns-in_default-clause-checked
returns-in_default-clause-checked g c = ([], reads_nothing g.R.Read.remaining c.args.lines.now, λ future. tt)

pub loop-line-init : goal.loop-line-init
loop-line-init g c = record {
  so_far = (
    [],
    [],
    reading_begins _ _ _ _ c.requires.after,
    summed_begins _ _ c.in-Ok.ensures.sums
        c.in-Ok.ensures.open,
  );
  kept = refl;
  size = c.in-Ok.ensures.size;
}

pub returns-in_err-line-clause-checked : goal.returns-in_err-line-clause-checked
returns-in_err-line-clause-checked g c =
    let p = err_from_is_err_and c.from_residual.result c.from_residual.ensures.1 in
    rw (p.1, p.2) (reading_lacks _ _ _ _ _ _ _ _ _ _ c.loop-line.invariant.so_far.2 c.in_err-line.ensures.line)

pub returns-in_err-line-clause-memory : goal.returns-in_err-line-clause-memory
returns-in_err-line-clause-memory g c = λ fresh space.
    let lines = c.next_line.new.lines in
    let net = c.args.net.now in
    let p = err_from_is_err_and c.from_residual.result c.from_residual.ensures.1 in
    rw (p.1, p.2) (lacks_no_memory (g.R.Read.remaining lines.from) g.G.OrderedGroup.counts (length net.worths)
    (has_pair net.pairs) c.loop-line.previous lines c.in_err-line.field-0.0 c.in_err-line.ensures.line.1)

pub close_pit-requires-clause-ascending : goal.close_pit-requires-clause-ascending
close_pit-requires-clause-ascending g c κs within = blocks_ascend _ _ _ _ _ _ _ _ _ c.loop-line.invariant.so_far.2
    c.loop-line.invariant.so_far.3

pub returns-in-Err-clause-checked : goal.returns-in-Err-clause-checked
returns-in-Err-clause-checked g c = pit_open _ _ _ _ _ _ _ _ _ _ _ _ c.loop-line.invariant.so_far.2
    c.loop-line.invariant.so_far.3 c.in_ok-line.ensures.line c.in-Err.ensures.closes

pub returns-then-is_end : goal.returns-then-is_end
returns-then-is_end g c =
    let q = c.loop-line.invariant.so_far in
    let answered = end_answered _ _ _ _ _ _ _ _ _ _ _ _ _ _ c.worths-worths.ensures.net.rests q.2 q.3
    c.in_default-close_pit.ensures.closes c.in_ok-line.ensures.line (sym c.is_end.ensures ∙ c.if-is_end.true)
    c.check_end.ensures.reads c.check_end.ensures.end in
    record {
      size = grind (arith, common_steps);
      checked = answered.checked;
      pit = grind (arith, common_steps);
      worth = answered.worth;
      greatest = answered.greatest;
      device = grind (arith, common_steps);
      kept = grind (arith, common_steps);
      memory = grind (arith, common_steps);
    }

pub put-requires-clause-may : goal.put-requires-clause-may
put-requires-clause-may g c κs within =
    let q = c.loop-line.invariant.so_far in
    let net = c.args.net.now in
    let e = sym c.is_end.ensures ∙ c.if-is_end.false in
    may_put _ _ _ _ _ _ _ c.worths-worths.ensures.net.rests q.3 c.in_default-close_pit.ensures.closes
    (line_met _ _ _ _ _ _ _ c.in_ok-line.ensures.line) e
    (reading_on _ _ net _ _ _ _ _ _ _ q.2 c.in_ok-line.ensures.line e).begins.order

pub put-requires-clause-counted : goal.put-requires-clause-counted
put-requires-clause-counted g c κs within = (met_sound _ _ _ _ (line_met _ _ _ _ _ _ _ c.in_ok-line.ensures.line)).count

pub returns-in-Err-put-clause-checked : goal.returns-in-Err-put-clause-checked
returns-in-Err-put-clause-checked g c = line_refused _ _ _ _ _ _ _ _ _ _ _ _ _ c.loop-line.invariant.so_far.2
    c.loop-line.invariant.so_far.3 c.in_default-close_pit.ensures.closes c.in_ok-line.ensures.line
    (sym c.is_end.ensures ∙ c.if-is_end.false) c.in-Err-put.ensures.fault

pub loop-line-preserved : goal.loop-line-preserved
loop-line-preserved g c =
    let i = c.loop-line.invariant in
    let q = i.so_far in
    let remaining = g.R.Read.remaining in
    let counts = g.G.OrderedGroup.counts in
    let net = c.args.net.now in
    let line = c.in_ok-line.line in
    let t = c.in_ok-line.ensures.line in
    let r = reading_on remaining counts net c.args.lines.now c.loop-line.lines c.next_line.new.lines
    c.loop-line.previous q.0 q.1 line q.2 t (sym c.is_end.ensures ∙ c.if-is_end.false) in
    let s = summed_on counts net c.loop-line.previous line c.loop-line.room c.close_pit.new.room c.put.new.self q.1
    q.3 c.in_default-close_pit.ensures.closes
    (line_met remaining counts net c.loop-line.lines c.next_line.new.lines c.loop-line.previous line t)
    c.in_default-put.ensures.sums c.in_default-put.ensures.limits c.in_default-put.ensures.open in
    record {
      so_far = (q.0 ++ t.0, q.1 ++ line ∷ [], r, s);
      kept = search rules;
      size = c.in_default-put.ensures.size ∙ c.in_default-close_pit.ensures.size ∙ i.size;
    }
