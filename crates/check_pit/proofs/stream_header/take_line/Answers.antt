use Rattle.fixed_worth.proofs.Common.{refl, ap, ◌+◌, ◌∙◌, FnOnceReturnsAt}
use Rattle.certificate_file.specs.Pieces.{in_line, read_line}
use Rattle.check_pit.specs.TakenLines.{AlwaysGives, TakesLine, LacksLine}
use Rattle.check_pit.proofs.NextLines.{each_case, line_given}
use Rattle.check_pit.proofs.stream_header.take_line.Goals as goal

pub returns-clause-line : goal.returns-clause-line
returns-clause-line g c =
    let s = c.args.lines.now in
    let t = c.pass_read.new.lines in
    each_case (AlwaysGives (FnOnceReturnsAt g.F.FnOnce c.args.read))
    (λ f x. TakesLine g.R.Read.remaining (read_line f) s t x)
    (λ f e. LacksLine g.R.Read.remaining (read_line f) s t e) c.pass_read.result
    (λ f same. line_given g.R.Read.remaining f s c.next_length.new.self t c.in_ok-count.count c.number.result
    c.front.result.now c.pass_read.result c.in_line-value.result c.in_ok-count.ensures.reads
    c.in_ok-count.ensures.line c.number.ensures.value c.front.ensures
    (c.in_line-value.ensures
    ∙ ap (in_line (c.number.result + 1))
    (same c.front.result.now c.read.result (c.front.result, c.read.ensures, refl))) c.pass_read.ensures)
