use Rattle.std.proofs.Common.{◌≡◌, false, rules, ◌∙◌, ap, arith}
use Rattle.check_pit.proofs.HeldLines.{held_too_long, held_cut_off, reads_twice, read_without_feed}
use Rattle.check_pit.proofs.stream_lines.StreamLines.next_length.Goals as goal

pub returns-then-unwrap_or-gt-LINE_BYTES-clause-line : goal.returns-then-unwrap_or-gt-LINE_BYTES-clause-line
returns-then-unwrap_or-gt-LINE_BYTES-clause-line g c =
    held_too_long c.loop-self.self.held c.as_slice-held.result.now c.first_line_feed-count.result c.unwrap_or.result
    c.loop-self.self.number c.self.inside.number
    (c.as_slice-held.ensures.is ∙ ap (λ v. v.held) c.self.view_is) c.first_line_feed-count.ensures c.unwrap_or.ensures
    c.if-unwrap_or-gt-LINE_BYTES.true (ap (λ v. v.number) c.self.view_is)

pub returns-then-not-branch-clause-line : goal.returns-then-not-branch-clause-line
returns-then-not-branch-clause-line g c =
    let ends : c.in_ok-read_more.field-0 ≡ false = search rules in
    let more = rw ends at c.in_ok-read_more.ensures.more in (
      more.0,
      omega (arith, more.2, c.if-self-gt-MOST_BYTES.false, ap (λ v. v.taken) c.self.view_is),
      held_cut_off c.loop-self.self.held c.read_more.new.self.held c.as_slice-held.result.now
          c.first_line_feed-count.result c.unwrap_or.result c.read_more.new.self.number
          (c.as_slice-held.ensures.is ∙ ap (λ v. v.held) c.self.view_is) more.1 c.first_line_feed-count.ensures
          (search rules) c.unwrap_or.ensures c.if-unwrap_or-gt-LINE_BYTES.false,
    )

pub loop-self-preserved : goal.loop-self-preserved
loop-self-preserved g c = record {
  reads = reads_twice g.R.Read.remaining c.args.self.now c.loop-self.self c.read_more.new.self
      c.loop-self.invariant.reads (search rules);
  kept = search rules;
  still = read_without_feed c.args.self.now c.loop-self.self c.read_more.new.self c.as_slice-held.result.now
      c.first_line_feed-count.result c.loop-self.invariant.still
      (c.as_slice-held.ensures.is ∙ ap (λ v. v.held) c.self.view_is) c.first_line_feed-count.ensures (search rules);
}
