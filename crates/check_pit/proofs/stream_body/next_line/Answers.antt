use Rattle.std.proofs.Common.{◌+◌, ◌≡◌, true, ℕ, Bool, List, length, sym, ap, ◌∙◌}
use Rattle.certificate_file.specs.BodyLines.{next_line}
use Rattle.prec_file.specs.Rests.{has_pair}
use Rattle.places.specs.Holders.{pairs_lent}
use Rattle.check_pit.specs.TakenLines.{held_piece}
use Rattle.check_pit.proofs.NextLines.{line_wrong, next_reads}
use Rattle.check_pit.proofs.stream_body.next_line.Goals as goal

pub returns-in-Err-clause-line : goal.returns-in-Err-clause-line
returns-in-Err-clause-line g c =
    let net = c.args.net.now in
    let p = c.held-held in
    let counts = g.G.OrderedGroup.counts in
    let f = next_line counts (length net.worths) (has_pair net.pairs) c.args.previous in
    let h = next_line c.counts.result (pairs_lent p.result).blocks (has_pair (pairs_lent p.result).pairs)
    c.args.previous in
    let same : f ≡ h = ap (λ (t : Bool). next_line t (length net.worths) (has_pair net.pairs) c.args.previous)
    (sym c.counts.ensures)
    ∙ ap (λ (n : ℕ). next_line c.counts.result n (has_pair net.pairs) c.args.previous) (sym p.ensures.blocks)
    ∙ ap (λ (ps : List (ℕ × ℕ)). next_line c.counts.result (pairs_lent p.result).blocks (has_pair ps) c.args.previous)
    (sym p.ensures.pairs) in
    let s = c.next_length.new.self in
    let piece = held_piece c.in_ok-count.count s.held in (
      c.in_ok-count.ensures.reads,
      line_wrong (g.R.Read.remaining s.from) f s c.in_ok-count.count c.in-Err.fault
          (next_reads counts (length net.worths) (has_pair net.pairs) c.args.previous) c.in_ok-count.ensures.line
          (ap (λ k. k (s.number + 1) piece) same ∙ ap (λ (k : ℕ). h (k + 1) piece) (sym c.number-number.ensures.value)
          ∙ ap (λ (t : List ℕ). h (c.number-number.result + 1) (record { text = t; ended = true }))
          (sym c.front-text.ensures) ∙ sym c.in-Err.ensures),
    )
