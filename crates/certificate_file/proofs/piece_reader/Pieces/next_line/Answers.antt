use Rattle.std.proofs.Common.{◌+◌, sym, ap, arith}
use Rattle.certificate_file.specs.Pieces.{Unread}
use Rattle.certificate_file.proofs.Splits.{long_first, long_last, cut_off, line_given}
use Rattle.certificate_file.proofs.piece_reader.Pieces.next_line.Goals as goal

pub returns-then-end-gt-LINE_BYTES : goal.returns-then-end-gt-LINE_BYTES
returns-then-end-gt-LINE_BYTES c = long_first c.self.inside.rest.now c.in-Some.end c.self.inside.number
    c.args.self.now c.self.view_is (sym c.in-Some.ensures) c.if-end-gt-LINE_BYTES.true

pub returns-then-self-gt-LINE_BYTES : goal.returns-then-self-gt-LINE_BYTES
returns-then-self-gt-LINE_BYTES c = long_last c.self.inside.rest.now c.self.inside.number c.args.self.now
    c.self.view_is (sym c.in-None.ensures) c.if-self-gt-LINE_BYTES.true

pub returns-else-self-gt-LINE_BYTES : goal.returns-else-self-gt-LINE_BYTES
returns-else-self-gt-LINE_BYTES c = cut_off c.self.inside.rest.now c.self.inside.number c.args.self.now c.self.view_is
    (sym c.in-None.ensures) c.if-self-gt-LINE_BYTES.false

pub returns-else-end-gt-LINE_BYTES : goal.returns-else-end-gt-LINE_BYTES
returns-else-end-gt-LINE_BYTES c = (
  omega (arith, c.split_at.ensures.front_len, c.if-end-gt-LINE_BYTES.false),
  line_given c.self.inside.rest.now c.split_at.result.0.now c.split_at.result.1.now
      c.after_first_line-self-inside.result.now c.in-Some.end c.self.inside.number c.args.self.now c.self.view_is
      (sym c.in-Some.ensures) c.split_at.ensures.front c.split_at.ensures.back c.after_first_line-self-inside.ensures,
  ap (λ (v : Unread). v.number + 1) c.self.view_is,
)
