use Rattle.std.proofs.Common.{ℕ, Bool, [], ◌∷◌, length, sym, subst, ◌∙◌}
use Rattle.certificate_file.specs.Prelude.{IsPieceRead, line_of, Covers, Adds}
use Rattle.certificate_file.proofs.Going.{goes_on}
use Rattle.certificate_file.proofs.body_reader.read_body.Goals as goal

pub loop-line-preserved : goal.loop-line-preserved
loop-line-preserved g c =
    let counts = g.G.OrderedGroup.counts in
    let pairs = c.args.rests.now.pairs in
    let line = c.in_ok-line.line in
    let q = c.in_ok-line.ensures in
    let r = c.in_ok-put.ensures in
    let blocks = sym c.len-n.ensures.is in
    goes_on counts c.len-n.result pairs c.args.pieces.now c.args.parts.now c.loop-line.previous c.loop-line.pieces
    c.read_in_order.new.pieces c.loop-line.parts c.put.new.self line
    c.loop-line.invariant (subst
    (λ (t : Bool). IsPieceRead (line_of t c.len-n.result) c.loop-line.pieces c.read_in_order.new.pieces line)
    c.counts-counts.ensures q.0) q.1 (sym c.is_end.ensures ∙ c.if-is_end.false) r.0
    (subst (λ (m : ℕ). Covers m (length pairs) c.put.new.self.flow) blocks r.1)
    (subst (λ (m : ℕ). Adds m pairs (line ∷ []) c.loop-line.parts c.put.new.self) blocks r.2)
