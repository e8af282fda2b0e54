use Rattle.fixed_worth.proofs.Common.{not, arith, ap, subst, refl, eqb, prefix_len-le-length, common_steps}
use Rattle.fixed_worth.specs.Text.{Left, BeginsTooLong}
use Rattle.fixed_worth.proofs.Cuts.{line_given, line_too_long}
use Rattle.fixed_worth.proofs.line_reader.Lines.next_line.Goals as goal

pub returns-then-end-gt-LINE_BYTES : goal.returns-then-end-gt-LINE_BYTES
returns-then-end-gt-LINE_BYTES c = (
  subst BeginsTooLong (ap (λ (v : Left). v.lines) c.self.view_is)
      (line_too_long c.self.inside.rest.now c.line_length-end.result c.if-end-gt-LINE_BYTES.true
      c.line_length-end.ensures),
  refl,
)

pub split_at-requires : goal.split_at-requires
split_at-requires c = rw c.line_length-end.ensures (prefix_len-le-length (λ b. not (eqb b 10)) c.self.inside.rest.now)

pub returns : goal.returns
returns c = grind (arith, common_steps, line_given)
